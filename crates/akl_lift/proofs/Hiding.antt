-- A query whose local variables have no name of their own.
use Rattle.std.proofs.Common.{◌≡◌, ℕ, suc, ◌+◌, ◌<◌, List, [], ◌∷◌, ◌++◌, length, drop, get_or, ap, refl}
use Rattle.akl_syntax.specs.Goals.{goals}
use Rattle.akl_syntax.specs.Clauses.{Query}
use Rattle.akl_lift.specs.Lifting.{without_all, query_order, query_shares, hidden_name, hidden_from, hidden_locals, query_without}
use Rattle.akl_lift.proofs.FirstSeen.{one_dropped}
use Rattle.akl_lift.proofs.Slots.{lists_turn}
use Rattle.akl_lift.proofs.Wholes.{query_by}

-- hiding keeps how many names there are
pub length-hidden : (locals : List ℕ) (n : ℕ) (ws : List (List ℕ)) → length (hidden_from locals n ws) ≡ length ws
length-hidden locals n [] = refl
length-hidden locals n (w ∷ ws) = ap suc (length-hidden locals (n + 1) ws)

-- lifted in the order of its names as they were
pub hidden_without : (q h : Query) (next : ℕ) → h ≡ hidden_locals q → query_by (without_all (query_order h) (query_shares h) next (goals h.goals)) h.names ≡ query_without next q
hidden_without q h next e = ap (λ (z : Query). query_by (without_all (query_order z) (query_shares z) next (goals z.goals)) z.names) e

-- one name more
pub hidden_turn : (locals : List ℕ) (names found new : List (List ℕ)) (i : ℕ) (x : List ℕ) → i < length names → x ≡ get_or names i x → new ≡ found ++ hidden_name locals i x ∷ [] → found ++ hidden_from locals i (drop i names) ≡ hidden_from locals 0 names
    → new ++ hidden_from locals (i + 1) (drop (i + 1) names) ≡ hidden_from locals 0 names
hidden_turn locals names found new i x h e n s =
    lists_turn found (hidden_name locals i x ∷ []) (hidden_from locals i (drop i names)) (hidden_from locals (i + 1) (drop (i + 1) names)) (hidden_from locals 0 names) new n (ap (hidden_from locals i) (one_dropped names i x h e)) s
