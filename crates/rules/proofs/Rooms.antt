-- Admit is refused for room exactly when every core's counted parts and the newcomer's exceed its bound.
use Rattle.std.proofs.Common.{◌≡◌, ℕ, zero, suc, ◌+◌, ◌-◌, ◌<◌, ◌≤◌, ◌↔◌, List, [], ◌∷◌, length, get_or, Some, None, Option, sym, refl, ap, ◌∙◌, subst, add-zero, zero-add, arith}
use Rattle.std.proofs.lemmas.Bool.{not_from_false, lt-ltb}
use Rattle.terms.specs.declared.refusals.Refusal.TheVariants.{NoRoom}
use Rattle.rules.specs.declared.types.Call.TheVariants.{Admit}
use Rattle.rules.specs.declared.types.Answer.TheVariants.{Placed, Refused}
use Rattle.rules.specs.Setup.{Setup}
use Rattle.rules.specs.System.{System}
use Rattle.rules.specs.Parts.{bounds, bound, counted, room, rooms, rooms_from}
use Rattle.rules.specs.Calls.{Outcome, answered, given_by, admitted, with_newcomer, admit}
use Rattle.rules.specs.Replay.{answer_of, reply}
use Rattle.rules.specs.Share.{OnlyRoomAsked, Lawful}
use Rattle.rules.proofs.Basics.{length_rooms}

get_or_rooms_from : (σ : System) (c : ℕ) (bs : List ℕ) (k : ℕ) → get_or (rooms_from σ c bs) k 0 ≡ get_or bs k 0 - counted σ (c + k)
get_or_rooms_from σ c [] k = omega arith
get_or_rooms_from σ c (b ∷ bs) zero = ap (λ (d : ℕ). b - counted σ d) (sym (add-zero c))
get_or_rooms_from σ c (b ∷ bs) (suc k) =
    get_or_rooms_from σ (suc c) bs k ∙ ap (λ (d : ℕ). get_or bs k 0 - counted σ d) (omega arith)

-- The room of core c in the list of rooms.
pub get_or_rooms : (s : Setup) (σ : System) (c : ℕ) → get_or (rooms s σ) c 0 ≡ room s σ c
get_or_rooms s σ c = get_or_rooms_from σ 0 (bounds s) c ∙ ap (λ (d : ℕ). bound s c - counted σ d) (zero-add c)

-- A core that the policy names has room for the parts sought.
pub room_named : (s : Setup) → Lawful s → (σ : System) (parts core : ℕ) → s.choice (rooms s σ) parts ≡ Some core → parts ≤ room s σ core
room_named s law σ parts core chosen = omega (arith, law.policy.room (rooms s σ) parts core chosen, get_or_rooms s σ core)

module _ (s : Setup) (law : Lawful s) (σ : System) (q p parts : ℕ) (asked : OnlyRoomAsked s σ q p parts) where
  -- What admit goes on with once its other checks passed.
  placed : Option ℕ → Outcome
  placed o = given_by o NoRoom (λ core. answered (Placed (σ.given + 1) core) (with_newcomer σ (admitted σ q p parts core)))

  asked_for_room : admit s σ q p ≡ placed (s.choice (rooms s σ) parts)
  unfolding admit placed
  asked_for_room = rw (asked.limits, asked.taken, not_from_false σ.out asked.settled, lt-ltb _ _ asked.place, lt-ltb _ _ asked.number) refl

  answer_placed : reply s σ (Admit q p) ≡ answer_of (placed (s.choice (rooms s σ) parts))
  answer_placed = ap answer_of asked_for_room

  none_placed : (o : Option ℕ) → answer_of (placed o) ≡ Refused NoRoom → o ≡ None
  unfolding placed
  none_placed None e = refl
  none_placed (Some core) e = cc

  none_refused : answer_of (placed None) ≡ Refused NoRoom
  unfolding placed
  none_refused = refl

  pub room_law : (reply s σ (Admit q p) ≡ Refused NoRoom) ↔ ((c : ℕ) → c < length s.figures → bound s c < counted σ c + parts)
  room_law = (exceeded, refused_for_room)
    where
      exceeded : reply s σ (Admit q p) ≡ Refused NoRoom → (c : ℕ) → c < length s.figures → bound s c < counted σ c + parts
      exceeded e c h =
          let below = law.policy.none (rooms s σ) parts (none_placed (s.choice (rooms s σ) parts) (sym answer_placed ∙ e)) c (subst (λ (k : ℕ). c < k) (sym (length_rooms s σ)) h) in
          omega (arith, get_or_rooms s σ c)

      short : ((c : ℕ) → c < length s.figures → bound s c < counted σ c + parts) → (c : ℕ) → c < length (rooms s σ) → get_or (rooms s σ) c 0 < parts
      short f c h =
          let l = subst (λ (k : ℕ). c < k) (length_rooms s σ) h in
          let over = f c l in
          let some = law.measure.low q p parts asked.limits asked.taken in
          omega (arith, get_or_rooms s σ c)

      refused_for_room : ((c : ℕ) → c < length s.figures → bound s c < counted σ c + parts) → reply s σ (Admit q p) ≡ Refused NoRoom
      refused_for_room f = answer_placed ∙ ap (λ o. answer_of (placed o)) (law.policy.short (rooms s σ) parts (short f)) ∙ none_refused
