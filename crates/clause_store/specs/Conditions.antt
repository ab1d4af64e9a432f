-- Over which programs a query can be loaded.
use Rattle.std.specs.Prelude.{◌≡◌, List, Some}
use Rattle.std.specs.List.{Contains}
use Rattle.akl_terms.specs.declared.program.Definition.{Definition}
use Rattle.akl_syntax.specs.declared.source.Head.{Head}
use Rattle.akl_syntax.specs.declared.source.Head.TheVariants as heads

-- the head is that of a lifted definition, and none of these definitions has its number
abbrev pub IsNewLifted : List Definition → Head → Type 0
IsNewLifted ds (heads.Named s) = ⊥
IsNewLifted ds (heads.Lifted number inside) = (d : Definition) → Contains ds d → d.lifted ≡ Some number → ⊥
