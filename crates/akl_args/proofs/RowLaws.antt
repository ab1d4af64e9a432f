-- What the rows of matches hold, as options are used once each.
use Rattle.std.proofs.Common.{◌≡◌, ◌∙◌, ap, refl, true≢false, append-nil, cond, Bool, true, false, ◌||◌, List, [], ◌∷◌, ◌++◌, Option, Some, None, is_some, find, bytes_eq}
use Rattle.clap.specs.Walk.{Row, Text, at_row, more_values, with_values, without, has_row}
use Rattle.clap.specs.declared.parser.matches.ValueSource.{ValueSource}
use Rattle.clap.specs.declared.builder.value_parser.Reading.{Reading}

-- the row of an id
abbrev pub row_in : Text → List Row → Option Row
row_in id rows = find (λ r. bytes_eq r.id id) rows

-- the row of one use
abbrev pub use_row : Text → Reading → ValueSource → List Text → Row
use_row id how source values = record { id = id; values = values; count = None; source = Some source; reading = how }

pub neither : (a b : Bool) → (a || b) ≡ false → (a ≡ false) × (b ≡ false)
neither true b h = absurd (true≢false h)
neither false b h = (refl, h)

found_or : (b : Bool) (r : Row) (rest : Bool) (found : Option Row) → rest ≡ is_some found → (b || rest) ≡ is_some (cond b (Some r) found)
found_or true r rest found h = refl
found_or false r rest found h = h

pub has_is_found : (id : Text) (rows : List Row) → has_row id rows ≡ is_some (row_in id rows)
has_is_found id [] = refl
has_is_found id (r ∷ rs) = found_or (bytes_eq r.id id) r _ _ (has_is_found id rs)

unchanged : (id : Text) (change : Row → List Row) (missing rows : List Row) → has_row id rows ≡ false → at_row id change missing rows ≡ rows ++ missing
unchanged id change missing [] h = refl
unchanged id change missing (r ∷ rs) h =
    let p = neither (bytes_eq r.id id) (has_row id rs) h in
    rw p.0 (ap (λ (xs : List Row). r ∷ xs) (unchanged id change missing rs p.1))

-- a value of an id without a row makes one, at the end
pub first_value : (id : Text) (how : Reading) (source : ValueSource) (values : List Text) (rows : List Row) → has_row id rows ≡ false
    → with_values id how source values rows ≡ rows ++ use_row id how source values ∷ []
first_value id how source values rows h = unchanged id (more_values source values) _ rows h

pub first_use : (id : Text) (how : Reading) (source : ValueSource) (values : List Text) (rows : List Row) → has_row id rows ≡ false
    → with_values id how source values (without id rows) ≡ rows ++ use_row id how source values ∷ []
first_use id how source values rows h =
    ap (with_values id how source values) (unchanged id (λ _. []) [] rows h ∙ append-nil rows) ∙ first_value id how source values rows h

pub found_new : (id : Text) (x : Row) (rows : List Row) → has_row id rows ≡ false → bytes_eq x.id id ≡ true → row_in id (rows ++ x ∷ []) ≡ Some x
found_new id x [] h is = rw is refl
found_new id x (r ∷ rs) h is =
    let p = neither (bytes_eq r.id id) (has_row id rs) h in
    rw p.0 (found_new id x rs p.1 is)

pub found_other : (id : Text) (x : Row) (rows : List Row) → bytes_eq x.id id ≡ false → row_in id (rows ++ x ∷ []) ≡ row_in id rows
found_other id x [] is = rw is refl
found_other id x (r ∷ rs) is = ap (λ (o : Option Row). cond (bytes_eq r.id id) (Some r) o) (found_other id x rs is)
