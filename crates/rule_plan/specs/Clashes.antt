-- Clashes that are seen at once.
use Rattle.std.specs.Prelude.{Bool, true, false, not, ◌&&◌, nat_eq}
use Rattle.std.specs.Ordering.{int_eq}
use Rattle.akl_terms.specs.declared.term.Seen.{Seen}
use Rattle.akl_terms.specs.declared.term.Seen.TheVariants.{Free}
use Rattle.akl_terms.specs.Names.{same_name}

-- what two terms begin with are heads that differ
abbrev pub differ_in_head : Seen → Seen → Bool
differ_in_head (Free x) b = false
differ_in_head (Seen.Int m) (Free x) = false
differ_in_head (Seen.Int m) (Seen.Int n) = not (int_eq m n)
differ_in_head (Seen.Int m) b = true
differ_in_head (Seen.Port p) (Free x) = false
differ_in_head (Seen.Port p) (Seen.Port q) = not (same_name p q)
differ_in_head (Seen.Port p) b = true
differ_in_head (Seen.Struct c i n f) (Free x) = false
differ_in_head (Seen.Struct c i n f) (Seen.Struct d j m g) = not (nat_eq c d && nat_eq n m)
differ_in_head (Seen.Struct c i n f) b = true
