-- Dealing and settling: the names in eight places against the names of the cores.
use Rattle.std.proofs.Common.{◌≡◌, ℕ, suc, ◌+◌, ◌-◌, ◌≤◌, Bool, true, false, cond, not, eqb, ◌&&◌, List, [], ◌∷◌, ◌++◌, map, length, get_or, take, drop, replicate, is_some, Some, None, Ok, Err, Option, Result, sym, refl, ap, ◌∙◌, arith, length-append}
use mathlib.Core.Path.{fun_ext}
use native.Mathlib.Nat.{min-eq_left}
use lib.ListN.{length-replicate}
use Rattle.std.proofs.lemmas.List.{take_at, drop_at}
use Rattle.std.proofs.lemmas.Bool.{and_parts, eq-eqb, ne_eqb}
use Rattle.std.proofs.lemmas.Bool.Decides.{nat_tests}
use Rattle.terms.specs.declared.refusals.Refusal.{Refusal}
use Rattle.terms.specs.declared.refusals.Refusal.TheVariants.{RoundOut, WrongRound, ClockEnd}
use Rattle.rules.specs.declared.types.Reservation.{Reservation}
use Rattle.rules.specs.declared.types.Answer.TheVariants.{Dealt, Clock}
use Rattle.rules.specs.Setup.{Setup, last_tick}
use Rattle.rules.specs.System.{System}
use Rattle.rules.specs.Server.{is_name, charged, charged_if, refilled}
use Rattle.rules.specs.Dealing.{picks}
use Rattle.rules.specs.Calls.{refused, answered, with_round, ticked, deal, settle}
use Rattle.table.specs.Calls.{dealt, tick_answer, tick_clock, tick_live, ticked as ticked_by}
use Rattle.table.specs.declared.server.Picks.{Picks}
use Rattle.table.proofs.Picking.{length_picks}
use Rattle.engine.specs.Limits.{all_none, none_from, fits_cores, going}

module _ (cores : ℕ) (rs : List Reservation) (few : cores ≤ 8) where
  dealt_is : dealt cores rs ≡ picks cores rs ++ replicate (8 - cores) None
  dealt_is = ap (λ n. picks n rs ++ replicate (8 - n) None) (min-eq_left few)

  -- The names of the cores stand first,
  pub dealt_take : take cores (dealt cores rs) ≡ picks cores rs
  dealt_take = ap (take cores) dealt_is ∙ take_at (picks cores rs) (replicate (8 - cores) None) cores (length_picks rs cores 0)

  none_replicated : (n : ℕ) → all_none (replicate n None) ≡ true
  none_replicated ℕ.zero = refl
  none_replicated (suc n) = none_replicated n

  -- the places after them hold none,
  pub dealt_none : none_from cores (dealt cores rs) ≡ true
  dealt_none =
      ap (λ ns. all_none (drop cores ns)) dealt_is ∙ ap all_none (drop_at (picks cores rs) (replicate (8 - cores) None) cores (length_picks rs cores 0)) ∙ none_replicated (8 - cores)

  -- and there are eight.
  pub dealt_long : length (dealt cores rs) ≡ 8
  dealt_long =
      omega (arith, ap length dealt_is, length-append (picks cores rs) (replicate (8 - cores) None), length_picks rs cores 0, length-replicate {A = Option ℕ} (8 - cores) None)

  -- So the round dealt fits the cores.
  pub dealt_fits : (p : Picks) → p.names ≡ dealt cores rs → fits_cores cores (Some p) ≡ true
  dealt_fits p is = λ i. eqb ((ap length is ∙ dealt_long) i) 8 && (ap (none_from cores) is ∙ dealt_none) i

-- None stands at each place of a list of nones.
all_none_at : (ns : List (Option ℕ)) (c : ℕ) → all_none ns ≡ true → get_or ns c None ≡ None
all_none_at [] c h = refl
all_none_at (None ∷ ns) ℕ.zero h = refl
all_none_at (Some n ∷ ns) ℕ.zero h = cc
all_none_at (n ∷ ns) (suc c) h = all_none_at ns c (and_parts (not (is_some n)) (all_none ns) h).1

-- The names of the cores tell as much as those in the eight places.
pub name_at : (cores : ℕ) (ns : List (Option ℕ)) (c : ℕ) → none_from cores ns ≡ true → get_or (take cores ns) c None ≡ get_or ns c None
name_at ℕ.zero ns c h = sym (all_none_at ns c h)
name_at (suc cores) [] c h = refl
name_at (suc cores) (n ∷ ns) ℕ.zero h = refl
name_at (suc cores) (n ∷ ns) (suc c) h = name_at cores ns c h

-- So a tick by the names in eight places is a tick by the names of the cores.
pub ticked_same : (cores t : ℕ) (ns : List (Option ℕ)) (rs : List Reservation) → none_from cores ns ≡ true → map (ticked_by ns t) rs ≡ map (λ r. refilled t (charged_if (take cores ns) r)) rs
ticked_same cores t ns rs h =
    ap (λ f. map f rs) (fun_ext λ r. ap (λ n. refilled t (cond (is_name r.number n) (charged r) r)) (sym (name_at cores ns r.core h)))

module _ (s : Setup) (σ : System) where
  -- A deal is refused while a round is out,
  pub deal_out : σ.out ≡ true → deal s σ ≡ refused RoundOut
  unfolding deal
  deal_out e = rw e refl

  -- and at the last tick;
  pub deal_end : σ.out ≡ false → σ.clock ≡ last_tick → deal s σ ≡ refused ClockEnd
  unfolding deal
  deal_end e t = rw (e, eq-eqb _ _ t) refl

  -- else it names the picks.
  pub deal_done : σ.out ≡ false → (σ.clock ≡ last_tick → ⊥) → deal s σ ≡ answered (Dealt σ.clock) (with_round σ (picks (length s.figures) σ.live))
  unfolding deal
  deal_done e t = rw (e, ne_eqb _ _ t) refl

-- A settle is refused where no round is out,
pub settle_none : (σ : System) (tick : ℕ) → σ.out ≡ false → settle σ tick ≡ refused WrongRound
unfolding settle
settle_none σ tick e = rw e refl

-- or where the round bears another tick;
pub settle_other : (σ : System) (tick : ℕ) → σ.out ≡ true → (tick ≡ σ.clock → ⊥) → settle σ tick ≡ refused WrongRound
unfolding settle
settle_other σ tick e t = rw (e, ne_eqb _ _ t) refl

-- else a tick passes.
pub settle_done : (σ : System) (tick : ℕ) → σ.out ≡ true → tick ≡ σ.clock → settle σ tick ≡ answered (Clock (σ.clock + 1)) (ticked σ)
unfolding settle
settle_done σ tick e t = rw (e, eq-eqb _ _ t) refl

-- A round that is out was dealt before the last tick.
pub going_on : (t : ℕ) → t ≤ last_tick → (t ≡ last_tick → ⊥) → going true t ≡ true
going_on t high other = grind (arith, nat_tests)

pub not_last : (out : Bool) (t : ℕ) → out ≡ true → going out t ≡ true → t ≡ last_tick → ⊥
not_last true t e h l = grind (arith, nat_tests)
not_last false t e h l = cc

-- What a tick answers and leaves before the last one.
pub tick_answer_lem : (t n : ℕ) → (t ≡ last_tick → ⊥) → Ok n ≡ tick_answer t → n ≡ t + 1
tick_answer_lem t n other e = go (eqb t last_tick) (ne_eqb _ _ other) e
  where
    go : (b : Bool) → b ≡ false → ◌≡◌ {A = Result ℕ Refusal} (Ok n) (cond b (Err ClockEnd) (Ok (t + 1))) → n ≡ t + 1
    go true k h = cc
    go false k h = cc

pub tick_clock_lem : (t : ℕ) → (t ≡ last_tick → ⊥) → tick_clock t ≡ t + 1
tick_clock_lem t other = rw (ne_eqb _ _ other) refl

pub tick_live_lem : (ns : List (Option ℕ)) (t : ℕ) (rs : List Reservation) → (t ≡ last_tick → ⊥) → tick_live ns t rs ≡ map (ticked_by ns (t + 1)) rs
tick_live_lem ns t rs other = rw (ne_eqb _ _ other) refl
