use Rattle.std.proofs.Common.{◌≡◌, ℕ, map, take, ◌∷◌, []}
use Rattle.tree_parts.proofs.groups.singles.Given as goal

abbrev pub invariant-loop-key : goal.invariant-loop-key
invariant-loop-key l = map (λ k. k.items) l.lists.items ≡ map (λ (k : ℕ). k ∷ []) (take l.key-index l.keys)
