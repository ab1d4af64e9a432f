use Rattle.step_laws.proofs.Holders.{once_times, held_around, unheld_around, alternative_at, root_box, root_named, holder_there}
use Rattle.step_laws.proofs.laws.held_boxes.Goals as goal

pub returns : goal.returns
returns c = record {
  held = λ roots once n f e. (unheld_around roots (once_times roots once) n f e, λ g i. held_around roots (once_times roots once) n g f e i);
  alternative = λ roots once. alternative_at roots (once_times roots once);
  root = λ roots once n. (root_box roots (once_times roots once) n, root_named roots (once_times roots once) n);
  there = holder_there;
}
