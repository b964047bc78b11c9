-- The worked figures, each by computing.
use Rattle.std.proofs.Common.{refl}
use Rattle.rules.specs.Calls.{admit, wake, rest, leave, move, deal, settle}
use Rattle.figures.specs.Figures.{Figures}

pub figures : Figures
unfolding admit wake rest leave move deal settle
figures = record {
  rounded_third = refl;
  rounded_least = refl;
  catalogue_row = refl;
  catalogue_other = refl;
  catalogue_refused = refl;
  bound = refl;
  first = refl;
  worst = refl;
  best = refl;
  wake_kept = refl;
  wake_filled = refl;
  wake_equal = refl;
  lapse_third = refl;
  lapse_half = refl;
  ahead = refl;
  behind = refl;
  answers = refl;
  live_0 = refl;
  departed_0 = refl;
  live_1 = refl;
  departed_1 = refl;
  ran = refl;
}
