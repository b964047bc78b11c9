-- An accepted deal names for each core the ready reservation that goes first.
use Rattle.std.proofs.Common.{◌≡◌, ℕ, ◌<◌, Bool, true, false, List, length, get_or, Some, None, Option, sym, refl, ap, ◌∙◌, subst}
use Rattle.std.specs.Option.{option_map}
use Rattle.rules.specs.declared.types.Reservation.{Reservation}
use Rattle.rules.specs.declared.types.Call.TheVariants.{Deal}
use Rattle.rules.specs.declared.types.Answer.{Answer}
use Rattle.rules.specs.Setup.{Setup}
use Rattle.rules.specs.System.{System}
use Rattle.rules.specs.Dealing.{is_ready_on, goes_first, pick, picks}
use Rattle.rules.specs.Replay.{next, accepts}
use Rattle.rules.specs.Share.{DealtTo}
use Rattle.rules.proofs.Steps.{Step, deals, by_step}
use Rattle.rules.proofs.Finding.{found_all}
use Rattle.rules.proofs.Basics.{Basic}
use Rattle.rules.proofs.Picking.{pick_found, pick_ready, pick_first, pick_none, get_or_picks}

-- The names after an accepted deal.
deal_names : (s : Setup) (σ : System) → accepts s σ Deal ≡ true → (next s σ Deal).names ≡ picks (length s.figures) σ.live
deal_names s σ = by_step s σ Deal (λ t _ σ'. t ≡ true → σ'.names ≡ picks (length s.figures) σ.live) (λ _ e. cc) (λ a σ' t _. go a σ' t)
  where
    go : (a : Answer) (σ' : System) → Step s σ Deal a σ' → σ'.names ≡ picks (length s.figures) σ.live
    go a σ' (deals settled going) = refl

ready_or_not : (t : Bool) → (t ≡ true → ⊥) → t ≡ false
ready_or_not true h = absurd (h refl)
ready_or_not false h = refl

picked : (s : Setup) (σ : System) → Basic s σ → (c : ℕ) (o : Option Reservation) → pick c σ.live ≡ o → DealtTo σ c (option_map (λ r. r.number) o)
picked s σ b c None e = λ m x h. ready_or_not (is_ready_on c x) (found_all (λ x. is_ready_on c x ≡ true → ⊥) m σ.live x (pick_none c σ.live e) h)
picked s σ b c (Some r) e = (r, pick_found c σ.live r b.ascending e, pick_ready c σ.live r e, λ m x h. found_all (λ x. is_ready_on c x ≡ true → goes_first r x ≡ true) m σ.live x (pick_first c σ.live r e) h)

pub dealt_law : (s : Setup) (σ : System) → Basic s σ → accepts s σ Deal ≡ true → (c : ℕ) → c < length s.figures → DealtTo σ c (get_or (next s σ Deal).names c None)
dealt_law s σ b ok c h = subst (DealtTo σ c) (sym (ap (λ (ns : List (Option ℕ)). get_or ns c None) (deal_names s σ ok) ∙ get_or_picks (length s.figures) c σ.live h)) (picked s σ b c (pick c σ.live) refl)
