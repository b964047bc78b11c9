-- The clock is the start and the ticks; a record's ticks run are the runs of its number.
use Rattle.std.proofs.Common.{◌≡◌, ℕ, ◌+◌, ◌<◌, ◌≤◌, Bool, true, false, cond, ◌&&◌, List, [], ◌∷◌, ◌++◌, Some, None, Option, sym, refl, ap, ◌∙◌, arith}
use Rattle.std.proofs.lemmas.Bool.{cond_both}
use Rattle.std.proofs.lemmas.Option.{none-some, same_Some}
use Rattle.rules.specs.declared.types.Reservation.{Reservation}
use Rattle.rules.specs.declared.types.Call.{Call}
use Rattle.rules.specs.declared.types.Answer.{Answer}
use Rattle.rules.specs.Lists.{find}
use Rattle.rules.specs.Setup.{Setup}
use Rattle.rules.specs.System.{System, fresh}
use Rattle.rules.specs.Server.{charged, is_due, refilled, woken, keeps}
use Rattle.rules.specs.Replay.{next, accepts, after, replay}
use Rattle.rules.specs.Share.{is_settle, ticks, runs, Lawful}
use Rattle.rules.proofs.Steps.{Step, admits, wakes, rests, leaves, moves, deals, settles, by_step}
use Rattle.rules.proofs.Finding.{found_above}
use Rattle.rules.proofs.Basics.{Basic, basic, basic_next}
use Rattle.rules.proofs.Turns.{Turn, turn, by_turn, turn_gone}
use Rattle.rules.proofs.Absences.{Absence, absent, born, absence, gone_after}

clock_step : (s : Setup) (σ : System) (c : Call) (a : Answer) (σ' : System) → Step s σ c a σ' → σ'.clock ≡ σ.clock + cond (is_settle c && true) 1 0
clock_step s σ c a σ' (admits q p parts core limits taken settled place number chosen) = omega arith
clock_step s σ c a σ' (wakes m r settled found resting) = omega arith
clock_step s σ c a σ' (rests m r settled found wants) = omega arith
clock_step s σ c a σ' (leaves m r settled found place) = omega arith
clock_step s σ c a σ' (moves m core r exists settled found other ahead fits place) = omega arith
clock_step s σ c a σ' (deals settled going) = omega arith
clock_step s σ c a σ' (settles tick out right) = refl

pub clock_next : (s : Setup) (σ : System) (c : Call) → (next s σ c).clock ≡ σ.clock + cond (is_settle c && accepts s σ c) 1 0
clock_next s σ c = by_step s σ c (λ t _ σ'. σ'.clock ≡ σ.clock + cond (is_settle c && t) 1 0) (λ _. refused (is_settle c)) (clock_step s σ c)
  where
    refused : (w : Bool) → σ.clock ≡ σ.clock + cond (w && false) 1 0
    refused true = omega arith
    refused false = omega arith

-- The state after two lists of calls, one after the other.
pub after_append : (s : Setup) (σ : System) (xs ys : List Call) → after s σ (xs ++ ys) ≡ after s (after s σ xs) ys
after_append s σ [] ys = refl
after_append s σ (x ∷ xs) ys = after_append s (next s σ x) xs ys

-- The clock after a list of calls.
pub clock_after : (s : Setup) (σ : System) (cs : List Call) → (after s σ cs).clock ≡ σ.clock + ticks s σ cs
clock_after s σ [] = omega arith
clock_after s σ (c ∷ cs) = omega (arith, clock_after s (next s σ c) cs, clock_next s σ c)

-- It runs no more than the ticks that pass.
pub runs_le_ticks : (s : Setup) (n : ℕ) (σ : System) (cs : List Call) → runs s n σ cs ≤ ticks s σ cs
runs_le_ticks s n σ [] = omega arith
runs_le_ticks s n σ (c ∷ cs) = let l = runs_le_ticks s n (next s σ c) cs in grind arith

refilled_ran : (t : ℕ) (y : Reservation) → (refilled t y).ran ≡ y.ran
refilled_ran t y = cond_both (is_due t y) _ _ (λ (z : Reservation). z.ran ≡ y.ran) (λ _. refl) (λ _. refl)

charged_ran : (run : Bool) (x : Reservation) → (cond run (charged x) x).ran ≡ x.ran + cond run 1 0
charged_ran true x = refl
charged_ran false x = omega arith

woken_ran : (t : ℕ) (x : Reservation) → (woken t x).ran ≡ x.ran
woken_ran t x = cond_both (keeps t x) _ _ (λ (z : Reservation). z.ran ≡ x.ran) (λ _. refl) (λ _. refl)

-- What a record's ticks run become.
turn_ran : (n : ℕ) (σ : System) (x : Reservation) (stop tick run : Bool) (σ' : System) → Turn n σ x stop tick run σ' → (y : Reservation) → find n σ'.live ≡ Some y → y.ran ≡ x.ran + cond run 1 0
turn_ran n σ x =
    by_turn n σ x (λ run y. y.ran ≡ x.ran + cond run 1 0)
    (omega arith)
    (λ _. omega (arith, woken_ran σ.clock x))
    (omega arith)
    (λ _. omega arith)
    (λ run _. refilled_ran (σ.clock + 1) (cond run (charged x) x) ∙ charged_ran run x)

-- The ticks run of a reservation live at two times differ by its runs between.
pub ran_since : (s : Setup) → Lawful s → (σ : System) → Basic s σ → (n : ℕ) (x : Reservation) → find n σ.live ≡ Some x → (cs : List Call) (r : Reservation) → find n (after s σ cs).live ≡ Some r → r.ran ≡ x.ran + runs s n σ cs
ran_since s law σ b n x live [] r h = let same : x ≡ r = same_Some _ _ (sym live ∙ h) in let e = ap (λ (z : Reservation). z.ran) same in omega arith
ran_since s law σ b n x live (c ∷ cs) r h = go (find n (next s σ c).live) refl (λ y e. ran_since s law (next s σ c) (basic_next s law σ c b) n y e cs r h)
  where
    go : (o : Option Reservation) → find n (next s σ c).live ≡ o → ((y : Reservation) → find n (next s σ c).live ≡ Some y → r.ran ≡ y.ran + runs s n (next s σ c) cs) → r.ran ≡ x.ran + runs s n σ (c ∷ cs)
    go None e ih = absurd (none-some _ (sym (gone_after s law (next s σ c) (basic_next s law σ c b) n (turn_gone n σ x _ _ _ _ (turn s σ b n x live c) e) e cs) ∙ h))
    go (Some y) e ih = omega (arith, ih y e, turn_ran n σ x _ _ _ _ (turn s σ b n x live c) y e)

-- The ticks run of a reservation are its runs since a time when its number was not yet given.
ran_unborn : (s : Setup) → Lawful s → (σ : System) → Basic s σ → (n : ℕ) → σ.given < n → find n σ.live ≡ None → (cs : List Call) (r : Reservation) → find n (after s σ cs).live ≡ Some r → r.ran ≡ runs s n σ cs
ran_unborn s law σ b n l none [] r h = cc
ran_unborn s law σ b n l none (c ∷ cs) r h = go _ (next s σ c) (absence s σ b n none c) (λ k e. ran_unborn s law (next s σ c) (basic_next s law σ c b) n k e cs r h) (λ y e. ran_since s law (next s σ c) (basic_next s law σ c b) n y e cs r h)
  where
    go : (run : Bool) (σ' : System) → Absence n σ run σ' → (σ'.given < n → find n σ'.live ≡ None → r.ran ≡ runs s n σ' cs) → ((y : Reservation) → find n σ'.live ≡ Some y → r.ran ≡ y.ran + runs s n σ' cs) → r.ran ≡ cond run 1 0 + runs s n σ' cs
    go run σ' (absent e later given) ih since = omega (arith, ih (later l) e)
    go run σ' (born e y live ran) ih since = omega (arith, since y live)

-- A record's ticks run are the ticks that its number has run.
pub ran_replayed : (s : Setup) → Lawful s → (past : List Call) (n : ℕ) (r : Reservation) → find n (replay s past).live ≡ Some r → r.ran ≡ runs s n (fresh s) past
ran_replayed s law past n r h = ran_unborn s law (fresh s) (basic s law []) n (found_above 0 n _ r (basic s law past).ascending h) refl past r h
