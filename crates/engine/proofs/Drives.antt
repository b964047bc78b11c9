-- Parts of a run, one after another.
use Rattle.std.proofs.Common.{◌≡◌, ℕ, suc, ◌+◌, ◌-◌, ◌<◌, ◌≤◌, Bool, true, false, cond, ◌&&◌, List, [], ◌∷◌, ◌++◌, length, get_or, take, drop, is_ok, IsErr, Some, None, Ok, Err, Option, Result, sym, refl, ap, ◌∙◌, subst, append_assoc, append-nil, arith}
use Rattle.std.proofs.lemmas.List.{take_more, take-append-drop}
use Rattle.rules.specs.declared.types.Call.{Call}
use Rattle.rules.specs.declared.types.Call.TheVariants.{Deal, Settle}
use Rattle.rules.specs.Setup.{Setup}
use Rattle.rules.specs.System.{System}
use Rattle.rules.specs.declared.types.Answer.{Answer}
use Rattle.rules.specs.Replay.{Told, is_accepted, accepts, after, replay}
use Rattle.rules.proofs.Counts.{after_append}
use Rattle.rules.proofs.Steps.{Step as Taken, deals, by_step}
use Rattle.engine.specs.declared.runs.Runner.{Runner}
use Rattle.engine.specs.declared.runs.Step.{Step}
use Rattle.engine.specs.Engines.{setup, shown}
use Rattle.engine.specs.Driving.{Course, arrived, stopped, once, trying, before, onward, rounds, round_on, own_call, stepping, course}
use Rattle.engine.specs.Along.{Along, Drives}
use Rattle.engine.specs.Driven.{Drove}
use Rattle.engine.proofs.Rounds.{settle_done}
use Rattle.engine.proofs.Along.{replay_append, along_none, along_more}

-- The second part goes on where the first is complete.
abbrev pub thence : (Setup → System → Course) → (Setup → System → Course) → Setup → System → Course
thence first then s ρ = onward (first s ρ) (then s (after s ρ (first s ρ).calls))

module _ {M P O : Type 0} {whole : M → ℕ} {price : M → ℕ → ℕ → Option ℕ} {choice : P → List ℕ → ℕ → Option ℕ} {shows : O → List Told → Type 0} where
  -- Nothing is done.
  pub drove_none : (r : Runner M P) (o : O) → Drove whole price choice shows (λ s ρ. arrived) r o true r o
  drove_none r o = record {
    made = refl;
    drives = λ past same hand. (along_none shows (setup whole price choice r.engine) past o (shown r.engine) r.hand same hand, refl);
  }

  -- The calls of another course that is the same from here.
  pub drove_as : (does does' : Setup → System → Course) {r r' : Runner M P} {o o' : O} {b : Bool} → Drove whole price choice shows does r o b r' o' → ((s : Setup) (ρ : System) → does s ρ ≡ does' s ρ) → Drove whole price choice shows does' r o b r' o'
  drove_as does does' {r} {r'} {o} {o'} {b} d same = record {
    made = d.made;
    drives = λ past shown₁ hand.
        let s = setup whole price choice r.engine in
        subst (λ c. Along shows s past c.calls o (shown r'.engine) r'.hand o' × (b ≡ c.complete)) (same s (replay s past)) (d.drives past shown₁ hand);
  }

  -- A part that answers an error is not complete.
  pub drove_err : {does : Setup → System → Course} {r r' : Runner M P} {o o' : O} {X E : Type 0} (res : Result X E) → IsErr res → Drove whole price choice shows does r o false r' o' → Drove whole price choice shows does r o (is_ok res) r' o'
  drove_err (Ok x) fails d = absurd (cc)
  drove_err (Err e) fails d = d

  -- A part that is complete, and the next,
  pub drove_then : (first then : Setup → System → Course) {r r₁ r₂ : Runner M P} {o o₁ o₂ : O} {b : Bool} → Drove whole price choice shows first r o true r₁ o₁ → Drove whole price choice shows then r₁ o₁ b r₂ o₂ → Drove whole price choice shows (thence first then) r o b r₂ o₂
  drove_then first then {r} {r₁} {r₂} {o} {o₁} {o₂} {b} d e = record {
    made = e.made ∙ d.made;
    drives = λ past same hand.
        let s = setup whole price choice r.engine in
        let ρ = replay s past in
        let cs = (first s ρ).calls in
        let f = d.drives past same hand in
        let e' = subst (λ z. Drives shows z (then z) (shown r₁.engine) r₁.hand o₁ (shown r₂.engine) r₂.hand b o₂) d.made e.drives in
        let g = e' (past ++ cs) f.0.shown f.0.hand in
        let all : cs ++ (then s (replay s (past ++ cs))).calls ≡ (thence first then s ρ).calls = λ i. cs ++ cond (f.1 i) (then s (replay_append s past cs i)).calls [] in
        let flag : (then s (replay s (past ++ cs))).complete ≡ (thence first then s ρ).complete = λ i. f.1 i && (then s (replay_append s past cs i)).complete in (
          subst (λ ys. Along shows s past ys o (shown r₂.engine) r₂.hand o₂) all (along_more shows s past cs _ o o₁ o₂ (shown r₁.engine) (shown r₂.engine) r₁.hand r₂.hand f.0 g.0),
          g.1 ∙ flag,
        );
  }

  -- and one that is not, which is the last.
  pub drove_last : (first then : Setup → System → Course) {r r₁ : Runner M P} {o o₁ : O} → Drove whole price choice shows first r o false r₁ o₁ → Drove whole price choice shows (thence first then) r o false r₁ o₁
  drove_last first then {r} {r₁} {o} {o₁} d = record {
    made = d.made;
    drives = λ past same hand.
        let s = setup whole price choice r.engine in
        let ρ = replay s past in
        let cs = (first s ρ).calls in
        let next = then s (after s ρ cs) in
        let f = d.drives past same hand in
        let all : cs ≡ (thence first then s ρ).calls = sym (append-nil cs) ∙ λ i. cs ++ cond (f.1 i) next.calls [] in
        let flag : false ≡ (thence first then s ρ).complete = λ i. f.1 i && next.complete in
        (subst (λ ys. Along shows s past ys o (shown r₁.engine) r₁.hand o₁) all f.0, flag);
  }

-- So many rounds and then so many more.
rounds_more : (s : Setup) (ρ : System) (j k : ℕ) → rounds s ρ (j + k) ≡ thence (λ s ρ. rounds s ρ j) (λ s ρ. rounds s ρ k) s ρ
unfolding rounds
rounds_more s ρ ℕ.zero k = ap (rounds s ρ) (omega arith)
rounds_more s ρ (suc j) k =
    let e : suc j + k ≡ suc (j + k) = omega arith in
    ap (rounds s ρ) e ∙ go (rounds_more s (round_on s ρ) j k) (accepts s ρ Deal)
  where
    ds : List Call
    ds = Deal ∷ Settle ρ.clock ∷ []

    go : rounds s (round_on s ρ) (j + k) ≡ thence (λ s ρ. rounds s ρ j) (λ s ρ. rounds s ρ k) s (round_on s ρ) → (b : Bool) → cond b (before ds (rounds s (round_on s ρ) (j + k))) stopped ≡ onward (cond b (before ds (rounds s (round_on s ρ) j)) stopped) (rounds s (after s ρ (cond b (before ds (rounds s (round_on s ρ) j)) stopped).calls) k)
    go later true = ap (before ds) later
    go later false = refl

-- Some steps and then others.
course_more : (s : Setup) (ρ : System) (xs ys : List Step) → course s ρ (xs ++ ys) ≡ thence (λ s ρ. course s ρ xs) (λ s ρ. course s ρ ys) s ρ
unfolding course
course_more s ρ [] ys = refl
course_more s ρ (x ∷ xs) ys = go (λ ρ'. course_more s ρ' xs ys) (rounds s ρ x.rounds).calls (rounds s ρ x.rounds).complete
  where
    own : List Call
    own = own_call x.call

    go : ((ρ' : System) → course s ρ' (xs ++ ys) ≡ thence (λ s ρ. course s ρ xs) (λ s ρ. course s ρ ys) s ρ') → (cs : List Call) (b : Bool) → onward (record { calls = cs; complete = b }) (before own (course s (after s ρ (cs ++ own)) (xs ++ ys))) ≡ onward (onward (record { calls = cs; complete = b }) (before own (course s (after s ρ (cs ++ own)) xs))) (course s (after s ρ (onward (record { calls = cs; complete = b }) (before own (course s (after s ρ (cs ++ own)) xs))).calls) ys)
    go later cs true =
        let ρ' = after s ρ (cs ++ own) in
        let c = course s ρ' xs in
        let state : after s ρ' c.calls ≡ after s ρ (cs ++ (own ++ c.calls)) = sym (after_append s ρ (cs ++ own) c.calls) ∙ ap (after s ρ) (append_assoc cs own c.calls) in
        let calls : cs ++ (own ++ (c.calls ++ cond c.complete (course s (after s ρ (cs ++ (own ++ c.calls))) ys).calls [])) ≡ (cs ++ (own ++ c.calls)) ++ cond c.complete (course s (after s ρ (cs ++ (own ++ c.calls))) ys).calls [] = ap (λ k. cs ++ k) (sym (append_assoc own c.calls _)) ∙ sym (append_assoc cs (own ++ c.calls) _) in
        ap (λ d. onward (record { calls = cs; complete = true }) (before own d)) (later ρ') ∙ (λ i. record { calls = cs ++ (own ++ (c.calls ++ cond c.complete (course s (state i) ys).calls [])); complete = c.complete && (course s (state i) ys).complete }) ∙ (λ i. record { calls = calls i; complete = c.complete && (course s (after s ρ (cs ++ (own ++ c.calls))) ys).complete })
    go later cs false = λ i. record { calls = sym (append-nil (cs ++ [])) i; complete = false }

-- One round is a deal and the settle of the round that it hands out.
round_one : (s : Setup) (ρ : System) → thence (trying Deal) (λ s ρ. trying (Settle ρ.clock) s ρ) s ρ ≡ rounds s ρ 1
unfolding rounds
round_one s ρ = by_step s ρ Deal (λ b a σ'. onward (record { calls = Deal ∷ []; complete = b }) (trying (Settle σ'.clock) s σ') ≡ cond b (before (Deal ∷ Settle ρ.clock ∷ []) arrived) stopped) (λ n. refl) go
  where
    go : (a : Answer) (σ' : System) → Taken s ρ Deal a σ' → onward (record { calls = Deal ∷ []; complete = true }) (trying (Settle σ'.clock) s σ') ≡ before (Deal ∷ Settle ρ.clock ∷ []) arrived
    go a σ' (deals settled going) = λ i. record { calls = Deal ∷ Settle ρ.clock ∷ []; complete = is_accepted (settle_done σ' ρ.clock refl refl i) }

-- One step is its rounds and its call.
course_one : (s : Setup) (ρ : System) (x : Step) → course s ρ (x ∷ []) ≡ stepping s x ρ
unfolding course
course_one s ρ x = λ i. onward (rounds s ρ x.rounds) (record { calls = append-nil (own_call x.call) i; complete = true })

module _ {M P O : Type 0} {whole : M → ℕ} {price : M → ℕ → ℕ → Option ℕ} {choice : P → List ℕ → ℕ → Option ℕ} {shows : O → List Told → Type 0} where
  -- A round whose deal is refused,
  pub round_undealt : {r r' : Runner M P} {o o' : O} → Drove whole price choice shows (trying Deal) r o false r' o' → Drove whole price choice shows (λ s ρ. rounds s ρ 1) r o false r' o'
  round_undealt d = drove_as _ _ (drove_last _ (λ s ρ. trying (Settle ρ.clock) s ρ) d) round_one

  -- and one that is dealt and settled.
  pub round_passed : {r r₁ r₂ : Runner M P} {o o₁ o₂ : O} {b : Bool} (tick : ℕ) → Drove whole price choice shows (trying Deal) r o true r₁ o₁ → tick ≡ (shown r₁.engine).clock → Drove whole price choice shows (trying (Settle tick)) r₁ o₁ b r₂ o₂ → Drove whole price choice shows (λ s ρ. rounds s ρ 1) r o b r₂ o₂
  round_passed {r} {r₁} {r₂} {o} {o₁} {o₂} {b} tick d ticks e = drove_as _ _ (drove_then _ (λ s ρ. trying (Settle ρ.clock) s ρ) d settled) round_one
    where
      settled : Drove whole price choice shows (λ s ρ. trying (Settle ρ.clock) s ρ) r₁ o₁ b r₂ o₂
      settled = record {
        made = e.made;
        drives = λ past same hand.
            let s = setup whole price choice r₁.engine in
            let ρ = replay s past in
            subst (λ t. Along shows s past (trying (Settle t) s ρ).calls o₁ (shown r₂.engine) r₂.hand o₂ × (b ≡ (trying (Settle t) s ρ).complete)) (ticks ∙ same.clock) (e.drives past same hand);
      }

  -- The rounds of a step and its call.
  pub step_called : {r r₁ r₂ : Runner M P} {o o₁ o₂ : O} {b : Bool} (x : Step) {c : Call} → Drove whole price choice shows (λ s ρ. rounds s ρ x.rounds) r o true r₁ o₁ → x.call ≡ Some c → Drove whole price choice shows (trying c) r₁ o₁ b r₂ o₂ → Drove whole price choice shows (λ s. stepping s x) r o true r₂ o₂
  step_called x d there e =
      drove_then (λ s ρ. rounds s ρ x.rounds) (λ s ρ. record { calls = own_call x.call; complete = true }) d (drove_as (λ s ρ. once _) _ (record { made = e.made; drives = λ past same hand. ((e.drives past same hand).0, refl) }) λ s ρ i. record { calls = own_call (sym there i); complete = true })

  -- No round, and no step.
  pub rounds_none : (r : Runner M P) (o : O) → Drove whole price choice shows (λ s ρ. rounds s ρ 0) r o true r o
  unfolding rounds
  rounds_none r o = drove_none r o

  pub steps_none : (r : Runner M P) (o : O) → Drove whole price choice shows (λ s ρ. course s ρ []) r o true r o
  unfolding course
  steps_none r o = drove_none r o

-- The step of no rounds and no call.
abbrev pub no_step : Step
no_step = record { rounds = 0; call = None }

module _ {M P O : Type 0} {whole : M → ℕ} {price : M → ℕ → ℕ → Option ℕ} {choice : P → List ℕ → ℕ → Option ℕ} {shows : O → List Told → Type 0} {r r₁ : Runner M P} {o o₁ : O} where
  -- A round more,
  pub rounds_step : (k : ℕ) {r₂ : Runner M P} {o₂ : O} {b : Bool} → Drove whole price choice shows (λ s ρ. rounds s ρ k) r o true r₁ o₁ → Drove whole price choice shows (λ s ρ. rounds s ρ 1) r₁ o₁ b r₂ o₂ → Drove whole price choice shows (λ s ρ. rounds s ρ (k + 1)) r o b r₂ o₂
  rounds_step k d e = drove_as _ _ (drove_then _ _ d e) λ s ρ. sym (rounds_more s ρ k 1)

  -- and the end of the rounds at one that is not complete.
  pub rounds_last : (k n : ℕ) → k ≤ n → Drove whole price choice shows (λ s ρ. rounds s ρ k) r o false r₁ o₁ → Drove whole price choice shows (λ s ρ. rounds s ρ n) r o false r₁ o₁
  rounds_last k n h d =
      drove_as _ _ (drove_last _ (λ s ρ. rounds s ρ (n - k)) d) λ s ρ. sym (rounds_more s ρ k (n - k)) ∙ ap (rounds s ρ) (omega arith)

  -- A step more,
  pub steps_step : (xs : List Step) (i : ℕ) {r₂ : Runner M P} {o₂ : O} {b : Bool} → i < length xs → Drove whole price choice shows (λ s ρ. course s ρ (take i xs)) r o true r₁ o₁ → Drove whole price choice shows (λ s. stepping s (get_or xs i no_step)) r₁ o₁ b r₂ o₂ → Drove whole price choice shows (λ s ρ. course s ρ (take (i + 1) xs)) r o b r₂ o₂
  steps_step xs i h d e =
      let x = get_or xs i no_step in
      drove_as _ _ (drove_then _ _ d (drove_as _ _ e λ s ρ. sym (course_one s ρ x))) λ s ρ. sym (ap (course s ρ) (take_more xs i no_step h) ∙ course_more s ρ (take i xs) (x ∷ []))

  -- and the end of the steps at one that is not complete.
  pub steps_last : (xs : List Step) (i : ℕ) → Drove whole price choice shows (λ s ρ. course s ρ (take i xs)) r o false r₁ o₁ → Drove whole price choice shows (λ s ρ. course s ρ xs) r o false r₁ o₁
  steps_last xs i d =
      drove_as _ _ (drove_last _ (λ s ρ. course s ρ (drop i xs)) d) λ s ρ. sym (course_more s ρ (take i xs) (drop i xs)) ∙ ap (course s ρ) (take-append-drop i xs)
