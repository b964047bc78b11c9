-- The engine's calls are those of its figures.
use Rattle.std.proofs.Common.{◌≡◌, ℕ, List, IsErrAnd, Option, Result, sym, refl, ap, subst}
use Rattle.terms.specs.declared.refusals.Refusal.{Refusal}
use Rattle.measure.specs.Laws.{Lawful as LawfulMeasure}
use Rattle.policy.specs.Laws.{Lawful as LawfulPolicy}
use Rattle.rules.specs.declared.types.Call.{Call}
use Rattle.rules.specs.declared.types.Answer.{Answer}
use Rattle.rules.specs.Setup.{Setup, setup_of}
use Rattle.rules.specs.Calls.{Outcome, refused, answer, move, deal}
use Rattle.rules.specs.Share.{ShareLaw}
use Rattle.rules.proofs.Shares.{shares}
use Rattle.engine.specs.declared.inner.Inner.{Inner}
use Rattle.engine.specs.declared.engine.Engine.{Engine}
use Rattle.engine.specs.Shown.{Performed}
use Rattle.engine.specs.Answers.{answer_by}
use Rattle.engine.specs.View.{view, figures_of, bare, Follows}
use Rattle.engine.specs.Engines.{setup, shown}
use Rattle.engine.proofs.Alike.{performed}
use Rattle.engine.proofs.Following.{follows_handed}
use Rattle.engine.proofs.Inners.{was_made}

-- A move asks a setup for its whole and its figures,
pub move_bare : (s : Setup) (i : Inner) (n core : ℕ) → s.figures ≡ figures_of i → move (bare s.whole i) (view i) n core ≡ move s (view i) n core
unfolding move
move_bare s i n core e = ap (λ figures. move (setup_of s.whole s.price s.choice figures s.start) (view i) n core) (sym e)

-- and a deal for its figures.
pub deal_bare : (s : Setup) (i : Inner) (whole : ℕ) → s.figures ≡ figures_of i → deal (bare whole i) (view i) ≡ deal s (view i)
unfolding deal
deal_bare s i whole e = ap (λ figures. deal (setup_of s.whole s.price s.choice figures s.start) (view i)) (sym e)

module _ {M P : Type 0} (whole : M → ℕ) (price : M → ℕ → ℕ → Option ℕ) (choice : P → List ℕ → ℕ → Option ℕ) (e : Engine M P) where
  -- The share law holds of every engine, since its making was accepted.
  pub law : LawfulMeasure (whole e.measure) (price e.measure) → LawfulPolicy (choice e.policy) → ShareLaw (setup whole price choice e)
  law measured placed = shares _ (record { made = was_made e.inner; measure = measured; policy = placed })

  -- A call that its figures follow is performed.
  pub performs : LawfulMeasure (whole e.measure) (price e.measure) → LawfulPolicy (choice e.policy) → (c : Call) (o : Outcome) (a : Answer) (i : Inner) → o ≡ answer (setup whole price choice e) (shown e) c → Follows e.inner o a i → Performed (setup whole price choice e) (shown e) c a (view i)
  performs measured placed c o a i same f =
      let g = subst (λ o₁. Follows e.inner o₁ a i) same f in
      performed (setup whole price choice e) (shown e) c a (view i) (law measured placed) g.answer g.next

  -- A refusal that `?` hands on is performed, where the model refuses alike.
  pub refuses_handed : {X : Type 0} (f : X → Answer) → LawfulMeasure (whole e.measure) (price e.measure) → LawfulPolicy (choice e.policy) → (c : Call) (n : Refusal) (r : Result X Refusal) → IsErrAnd r (λ m. m ≡ n) → answer (setup whole price choice e) (shown e) c ≡ refused n → Performed (setup whole price choice e) (shown e) c (answer_by f r) (shown e)
  refuses_handed f measured placed c n r handed why =
      performs measured placed c (answer (setup whole price choice e) (shown e) c) (answer_by f r) e.inner refl (follows_handed f e.inner e.inner _ n r handed why refl)

  -- Figures of the same cores and start are those of the same setup.
  pub same_setup : (i : Inner) → figures_of i ≡ figures_of e.inner → i.start ≡ e.inner.start → setup whole price choice (record { measure = e.measure; policy = e.policy; inner = i }) ≡ setup whole price choice e
  same_setup i figures start = λ k. setup_of (whole e.measure) (price e.measure) (choice e.policy) (figures k) (start k)

  -- The engine is as it was where its figures are.
  pub same_engine : (i : Inner) → i ≡ e.inner → ◌≡◌ {A = Engine M P} (record { measure = e.measure; policy = e.policy; inner = i }) e
  same_engine i same = λ k. record { measure = e.measure; policy = e.policy; inner = same k }
