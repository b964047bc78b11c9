use Rattle.std.proofs.Common.{length, sym, ap, subst, ◌∙◌, append_assoc}
use Rattle.engine.specs.Engines.{shown}
use Rattle.engine.proofs.Calling.{is_taken, names_of, unwrapped, names_none, taken, names_shown, call_drives}
use Rattle.engine.proofs.runs.Runner.perform.Goals as goal

pub returns-in-Refused : goal.returns-in-Refused
returns-in-Refused g c =
    let answer = unwrapped c.make.result c.unwrap_or_else-answer.result c.unwrap_or_else-answer.ensures in
    record {
      made = c.make.ensures.made;
      drives = call_drives c.args.self.now.hand c.make.ensures.performed answer c.make.new.self.held c.clock-tick.ensures (ap is_taken (sym c.in-Refused.is)) (ap (λ a. names_of a (shown c.make.new.self.engine).names) (sym c.in-Refused.is)) c.said.ensures;
    }

pub returns-in-Dealt : goal.returns-in-Dealt
returns-in-Dealt g c =
    let answer = unwrapped c.make.result c.unwrap_or_else-answer.result c.unwrap_or_else-answer.ensures in
    record {
      made = c.make.ensures.made;
      drives = call_drives c.args.self.now.hand c.make.ensures.performed answer c.make.new.self.held c.clock-tick.ensures (ap is_taken (sym c.in-Dealt.is)) (names_shown c.picks-picks.result.names c.cores.result c.make.ensures.performed answer c.in-Dealt.is c.picks-picks.ensures (c.cores.ensures ∙ ap (λ s. length s.figures) c.make.ensures.made)) (λ l seen. subst (g.O.Observer.shows c.dealt.new.self) (append_assoc l _ _) (c.dealt.ensures _ (c.said.ensures l seen)));
    }

pub returns-in_default : goal.returns-in_default
returns-in_default g c =
    let answer = unwrapped c.make.result c.unwrap_or_else-answer.result c.unwrap_or_else-answer.ensures in
    record {
      made = c.make.ensures.made;
      drives = call_drives c.args.self.now.hand c.make.ensures.performed answer c.make.new.self.held c.clock-tick.ensures (taken _ c.in_default.not-Refused) (names_none _ _ c.in_default.not-Dealt) c.said.ensures;
    }
