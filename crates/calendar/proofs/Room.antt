-- A calendar that holds fewer than there are places takes one more.
-- Assumes nothing.
use Rattle.std.proofs.Common.{◌≡◌, ◌<◌, Bool, true, List, length, Ok, ◌∙◌, arith}
use Rattle.std.proofs.lemmas.List.{length-take}
use Rattle.std.proofs.lemmas.Bool.{lt-ltb, cond-true}
use Rattle.calendar.specs.Queues.{filed, queue}
use Rattle.calendar.specs.Places.{held, size, roomy, put_answer, put_queue}
use Rattle.calendar.specs.declared.Calendar.{Calendar}
use Rattle.calendar.proofs.Counts.{length_queue}

module _ {X : Type 0} (before : X → X → Bool) (c : Calendar) (xs : List X) where
  -- the queue is as long as the count of elements held
  pub length_held : length (queue before (held c xs)) ≡ size c xs
  length_held = length_queue before (held c xs) ∙ length-take c.count xs

  pub roomy_below : length (queue before (held c xs)) < length xs → roomy c xs ≡ true
  roomy_below fewer = lt-ltb c.count (length xs) (omega (arith, length_held))

  pub put_done : length (queue before (held c xs)) < length xs → put_answer c xs ≡ Ok tt
  put_done fewer = cond-true (roomy c xs) _ _ (roomy_below fewer)

  pub put_filed : (x : X) → length (queue before (held c xs)) < length xs → put_queue before x c xs ≡ filed before x (queue before (held c xs))
  put_filed x fewer = cond-true (roomy c xs) _ _ (roomy_below fewer)
