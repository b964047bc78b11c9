-- A plan's steps leave no round out: its calls neither deal nor settle, and its rounds are settled.
use Rattle.std.proofs.Common.{◌≡◌, ℕ, suc, Bool, true, false, cond, List, [], ◌∷◌, ◌++◌, map, length, None, Option, sym, refl, ap, ◌∙◌, ⊎_elim, append_assoc, append-nil}
use Rattle.std.proofs.lemmas.Bool.{cases_eq}
use Rattle.rules.specs.declared.types.Call.{Call}
use Rattle.rules.specs.declared.types.Call.TheVariants.{Admit, Wake, Rest, Leave, Move, Deal, Settle}
use Rattle.rules.specs.declared.types.Answer.{Answer}
use Rattle.rules.specs.declared.types.Answer.TheVariants.{Dealt}
use Rattle.rules.specs.Setup.{Setup, last_tick}
use Rattle.rules.specs.System.{System, fresh}
use Rattle.rules.specs.Calls.{Outcome, answered, with_round, deal}
use Rattle.rules.specs.Dealing.{picks}
use Rattle.rules.specs.Replay.{state_after, is_accepted, next, after, replay}
use Rattle.rules.proofs.Counts.{after_append}
use Rattle.engine.proofs.Calling.{calm_hand}
use Rattle.engine.proofs.Rounds.{deal_end, deal_done, settle_done}
use Rattle.engine.specs.Driving.{before, stopped, round_on, rounds, own_call, course}
use Rattle.plan.specs.declared.event.Kind.{Kind}
use Rattle.plan.specs.Records.{Row}
use Rattle.report.specs.Reports.{call_of, step_of}

-- A round that is dealt is settled.
round_idle : (s : Setup) (σ : System) (names : List (Option ℕ)) (a : Answer) → deal s σ ≡ answered a (with_round σ names) → (round_on s σ).out ≡ false
round_idle s σ names a e =
    ap (λ τ. (next s τ (Settle σ.clock)).out) (ap (state_after σ) e) ∙ ap (λ o. (state_after (with_round σ names) o).out) (settle_done (with_round σ names) σ.clock refl refl)

-- What a course of rounds comes to, by the outcome of its first deal.
first_deal : Setup → System → ℕ → Outcome → System
first_deal s σ k o = after s σ (cond (is_accepted o) (before (Deal ∷ Settle σ.clock ∷ []) (rounds s (round_on s σ) k)) stopped).calls

rounds_idle : (s : Setup) (σ : System) (k : ℕ) → σ.out ≡ false → (after s σ (rounds s σ k).calls).out ≡ false
unfolding rounds first_deal
rounds_idle s σ ℕ.zero idle = idle
rounds_idle s σ (suc k) idle =
    let names = picks (length s.figures) σ.live in
    ⊎_elim
    (λ last. let e = deal_end s σ idle last in ap (λ o. (first_deal s σ k o).out) e ∙ ap (λ o. (state_after σ o).out) e ∙ idle)
    (λ going. let e = deal_done s σ idle going in ap (λ o. (first_deal s σ k o).out) e ∙ rounds_idle s (round_on s σ) k (round_idle s σ names (Dealt σ.clock) e))
    (cases_eq σ.clock last_tick)

-- A step of a plan's event leaves no round out.
own_idle : (s : Setup) (σ : System) (kind : Kind) (a b : ℕ) → σ.out ≡ false → (after s σ (own_call (call_of kind a b))).out ≡ false
own_idle s σ Kind.Admit a b idle = calm_hand s σ (Admit a b) None tt idle
own_idle s σ Kind.Wake a b idle = calm_hand s σ (Wake a) None tt idle
own_idle s σ Kind.Rest a b idle = calm_hand s σ (Rest a) None tt idle
own_idle s σ Kind.Leave a b idle = calm_hand s σ (Leave a) None tt idle
own_idle s σ Kind.Move a b idle = calm_hand s σ (Move a b) None tt idle
own_idle s σ Kind.End a b idle = idle

-- After the steps of a plan's events no round is out.
pub course_idle : (s : Setup) (σ : System) (rows : List Row) → σ.out ≡ false → (after s σ (course s σ (map step_of rows)).calls).out ≡ false
unfolding course
course_idle s σ [] idle = idle
course_idle s σ (r ∷ rows) idle =
    let c = rounds s σ r.gap in
    let own = own_call (call_of r.kind r.a r.b) in
    let τ = after s σ (c.calls ++ own) in
    let ran = rounds_idle s σ r.gap idle in
    let called = ap (λ υ. υ.out) (after_append s σ c.calls own) ∙ own_idle s (after s σ c.calls) r.kind r.a r.b ran in
    let rest = course_idle s τ rows called in
    go c.complete c.calls own (course s τ (map step_of rows)).calls ran rest
  where
    go : (b : Bool) (cs own ds : List Call) → (after s σ cs).out ≡ false → (after s (after s σ (cs ++ own)) ds).out ≡ false → (after s σ (cs ++ cond b (own ++ ds) [])).out ≡ false
    go true cs own ds ran rest =
        ap (λ l. (after s σ l).out) (sym (append_assoc cs own ds)) ∙ ap (λ υ. υ.out) (after_append s σ (cs ++ own) ds) ∙ rest
    go false cs own ds ran rest = ap (λ l. (after s σ l).out) (append-nil cs) ∙ ran

pub steps_idle : (s : Setup) (rows : List Row) → (replay s (course s (fresh s) (map step_of rows)).calls).out ≡ false
steps_idle s rows = course_idle s (fresh s) rows refl
