-- The share law holds of every lawful setup.
use Rattle.rules.specs.System.{fresh}
use Rattle.rules.specs.Replay.{replay}
use Rattle.rules.specs.Share.{Shares}
use Rattle.rules.proofs.Basics.{basic}
use Rattle.rules.proofs.Counts.{clock_after, ran_replayed}
use Rattle.rules.proofs.Rooms.{room_law}
use Rattle.rules.proofs.Deals.{dealt_law}
use Rattle.rules.proofs.Most.{most_law}
use Rattle.rules.proofs.Exact.{exact_law}
use Rattle.rules.proofs.Deadlines.{in_time}

pub shares : Shares
shares s law = record {
  exact = exact_law s law (in_time s law);
  most = most_law s law;
  room = λ past q p parts asked. room_law s law (replay s past) q p parts asked;
  clock = λ past. clock_after s (fresh s) past;
  ran = ran_replayed s law;
  dealt = λ past. dealt_law s (replay s past) (basic s law past);
}
