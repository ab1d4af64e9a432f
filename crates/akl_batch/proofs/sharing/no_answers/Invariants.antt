use Rattle.std.proofs.Common.{◌≡◌, None, All, length}
use Rattle.akl_batch.proofs.sharing.no_answers.Given as goal

abbrev pub invariant-loop-made : goal.invariant-loop-made
invariant-loop-made l = record {
  count : length l.places.items ≡ l._made;
  empty : All (λ place. place ≡ None) l.places.items;
}
