use Rattle.std.proofs.Common.{◌≡◌, ◌++◌, map, length, rules, arith}
use Rattle.std.specs.List.{range_with_len}
use Rattle.std.proofs.lemmas.Iterator.{YieldsList-from_range, YieldsList-from_slice, YieldsList-from_map}
use Rattle.std.proofs.lemmas.Iterator.Adapters.{items_from_extend}
use Rattle.std.proofs.lemmas.Result.{IfOk-at_ok}
use Rattle.engine.specs.Engines.{shown}
use Rattle.engine.specs.View.{figures_of}
use Rattle.report.specs.Lines.{line_text}
use Rattle.report.specs.Reports.{end_lines}
use Rattle.report.proofs.Closing.{core_at, ran_at, end_more, end_none, closing}
use Rattle.report.proofs.lines.close.Goals.{then-complete+in_ok-push, else-complete}
use Rattle.report.proofs.lines.close.Goals as goal

pub returns : goal.returns
returns g c =
    let σ = shown c.args.engine.now in
    let n = length (figures_of c.args.engine.now.inner) in
    let ended : map line_text c.if-complete.lines.items ≡ map line_text c.args.lines.items ++ end_lines c.args.complete σ.clock =
    elim c.if-complete.branch [ then-complete+in_ok-push w ↦ end_more c.args.complete σ.clock c.args.lines.items c.if-complete.lines.items w.if-complete.true (search rules) | else-complete w ↦ end_none c.args.complete σ.clock c.args.lines.items c.if-complete.lines.items w.if-complete.false (search rules) ] in
    let cores : c.extend.new.self.items ≡ c.if-complete.lines.items ++ map (core_at σ) (range_with_len 0 n) =
    (IfOk-at_ok _ c.in_ok-extend.was (items_from_extend c.extend.result c.extend.ensures.ran (YieldsList-from_map _ (core_at σ) (YieldsList-from_range 0 c.cores-cores.result n c.map.ensures.source (omega arith)) c.map.ensures.closure (λ x r q k. search rules)))).0 in
    let live : c.extend-2.new.self.items ≡ c.extend.new.self.items ++ map ran_at σ.live =
    (IfOk-at_ok _ c.in_ok-extend-2.was (items_from_extend c.extend-2.result c.extend-2.ensures.ran (YieldsList-from_map _ ran_at (YieldsList-from_slice σ.live (cc)) c.map-2.ensures.closure (λ x r q k. search rules)))).0 in
    closing σ n c.args.lines.items c.if-complete.lines.items (end_lines c.args.complete σ.clock) ended cores live
