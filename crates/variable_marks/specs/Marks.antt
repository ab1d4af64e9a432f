-- Marks of variables.
use Rattle.std.specs.Prelude.{◌≡◌, ◌==◌, ℕ, List, map, find, Option, None, Some, option_map, ◌⊎◌}
use Rattle.std.specs.Map.{lookup}
use Rattle.std.specs.declared.cmp.Reverse.{Reverse}
use Rattle.akl_terms.specs.declared.name.Name.{Name}
use Rattle.akl_terms.specs.declared.name.Var.{Var}
use Rattle.akl_terms.specs.Names.{same_name}
use Rattle.constraint_laws.specs.Touched.{IsAmong}
use Rattle.variable_marks.specs.declared.frame.FrameMarks.{FrameMarks}

abbrev pub number_or : ℕ → Option ℕ → ℕ
number_or others None = others
number_or others (Some number) = number

-- the mark of an index of a frame: its own one, or that of all others
abbrev pub own_mark : List (ℕ × ℕ) → ℕ → Option ℕ
own_mark marks i = option_map (λ (m : ℕ × ℕ). m.1) (find (λ (m : ℕ × ℕ). m.0 == i) marks)

abbrev pub mark_within : FrameMarks → ℕ → ℕ
mark_within f i = number_or f.others (own_mark f.some.items i)

-- the frames that have marks of their own, and the mark of the variables of all others
pub record MarksValue : Type 0 where
  pub frames : List (Name × FrameMarks)
  pub others : ℕ

-- in a map in which the younger ones stand first
abbrev pub frames_of : List (Reverse Name × FrameMarks) → List (Name × FrameMarks)
frames_of es = map (λ (e : Reverse Name × FrameMarks). (e.0.0, e.1)) es

abbrev pub mark_or : ℕ → Option FrameMarks → ℕ → ℕ
mark_or others None i = others
mark_or others (Some f) i = mark_within f i

abbrev pub mark_in : MarksValue → Var → ℕ
mark_in m x = mark_or m.others (lookup (same_name x.frame) m.frames) x.index

-- each variable has this number, or it isn't one of these and has what it had
pub record MarksEach (list : List Var) (number : ℕ) (m n : MarksValue) : Type 0 where
  pub each : (x : Var) → (mark_in n x ≡ number) ⊎ ((IsAmong x list → ⊥) × (mark_in n x ≡ mark_in m x))
