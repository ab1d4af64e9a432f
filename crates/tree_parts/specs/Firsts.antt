-- The first places of keys.
use Rattle.std.specs.Prelude.{◌≡◌, ◌≤◌, ◌<◌, ℕ, List, [], length, get_or, Option, Some, None, if◌then◌else◌, nat_eq}
use Rattle.std.specs.Global.{Vec}
use Rattle.std.specs.Map.{lookup}
use Rattle.std.specs.Cmp.Lexicographic.{pointwise}

-- the number that a list gives a node
abbrev pub at_node : List ℕ → ℕ → ℕ
at_node xs i = get_or xs i 0

-- for each place the first one that has the same key
pub record AreFirsts (keys : List (List ℕ)) (firsts : List ℕ) : Type 0 where
  pub size : length firsts ≡ length keys
  pub before : (i : ℕ) → i < length keys → at_node firsts i ≤ i
  pub key : (i : ℕ) → i < length keys → get_or keys (at_node firsts i) [] ≡ get_or keys i []
  pub one : (i j : ℕ) → i < length keys → j < length keys → get_or keys i [] ≡ get_or keys j [] → at_node firsts i ≡ at_node firsts j

-- the place that an index has for a key
abbrev pub found : List (Vec ℕ × ℕ) → List ℕ → Option ℕ
found entries key = lookup (λ k. pointwise nat_eq key k.items) entries

-- a key's place: the index had it, or it is this one, which the index then has for this key alone
pub data IsPlaced (old new : List (Vec ℕ × ℕ)) (key : List ℕ) (place first : ℕ) : Type 0 where
  met : found old key ≡ Some first → new ≡ old → IsPlaced old new key place first
  fresh : found old key ≡ None → first ≡ place → ((k : Vec ℕ) → found new k.items ≡ (if pointwise nat_eq key k.items then Some place else found old k.items)) → IsPlaced old new key place first
