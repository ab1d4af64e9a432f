-- Numbers given one after another are the places of the variables by first occurrence.
use Rattle.std.proofs.Common.{◌≡◌, ℕ, suc, ◌<◌, ◌≤◌, List, ◌++◌, map, Option, Some, refl, sym, ap, subst, ◌∙◌, arith}
use Rattle.std.specs.Prelude.{unwrap_or, ⊤}
use Rattle.std.proofs.lemmas.List.{map-append}
use Rattle.variable_scopes.specs.Numbering.{State, number, after_one, entered, after_inside, after, numbers, AreBelow}
use Rattle.variable_scopes.specs.Scoped.{place_of, added, first_seen}
use Rattle.variable_scopes.specs.Spellings.{Spellings, nothing, spelling, collecting}
use Rattle.variable_scopes.specs.Variables.{Variable, Collecting, variable_at, next_behind, occurring}
use Rattle.variable_scopes.proofs.Places.{first_seen-append}
use Rattle.variable_scopes.proofs.Standing.{Stands, Below, Extends, Keeps, OneMore, number_in, one_more, inside, stands_inside, below_inside, stands_outside, keeps_outside, keeps_both, keeps_all}

-- every spelling is below a count
abbrev pub IsBelow : ℕ → Spellings → Type 0
IsBelow m nothing = ⊤
IsBelow m (spelling n x) = (n < m) × IsBelow m x
IsBelow m (collecting ns x y) = AreBelow m ns × IsBelow m x × IsBelow m y

pub next_grows : (next : ℕ) (x : Spellings) → next ≤ next_behind next x
next_grows next nothing = omega arith
next_grows next (spelling n x) = next_grows next x
next_grows next (collecting ns x y) = omega (arith, next_grows (suc next) x, next_grows (next_behind (suc next) x) y)

-- what holds behind spellings, with these variables known
pub record Goes (m next : ℕ) (around : List Collecting) (known : List Variable) (s : State) (x : Spellings) (more : List Variable) : Type 0 where
  pub stands : Stands m around more (after s x)
  pub below : Below (next_behind next x) around more
  pub keeps : Keeps next around known more
  pub given : (final : List Variable) → Extends more final → numbers s x ≡ map (number_in final) (occurring around next x)

goes_one : {m next : ℕ} {around : List Collecting} {known more all : List Variable} {s : State} (n : ℕ) (x : Spellings) → OneMore m next around known s n more (after_one s n) → Goes m next around more (after_one s n) x all → Goes m next around known s (spelling n x) all
goes_one {around = around} {all = all} {s = s} n x o g = record {
  stands = g.stands;
  below = g.below;
  keeps = keeps_both (omega arith) o.keeps g.keeps;
  given = λ final e. (
      let at : place_of (variable_at around n) final ≡ Some (number s n) = e (variable_at around n) (number s n) (g.keeps.grows (variable_at around n) (number s n) o.placed) in
      let first : number s n ≡ number_in final (variable_at around n) = sym (ap (λ (z : Option ℕ). unwrap_or z 0) at) in
      let rest : numbers (after_one s n) x ≡ map (number_in final) (occurring around _ x) = g.given final e in
      cc);
}

goes_in : {m next : ℕ} {around : List Collecting} {known more all : List Variable} {s : State} (ns : List ℕ) (x y : Spellings) → Goes m (suc next) (inside next ns around) known (entered s ns) x more
    → Goes m (next_behind (suc next) x) around more (after_inside s ns (after (entered s ns) x)) y all → Goes m next around known s (collecting ns x y) all
goes_in {next = next} {around = around} {s = s} ns x y i g = record {
  stands = g.stands;
  below = g.below;
  keeps = keeps_both (omega (arith, next_grows (suc next) x)) (keeps_outside ns i.keeps) g.keeps;
  given = λ final e. (
      let first : numbers (entered s ns) x ≡ map (number_in final) (occurring (inside next ns around) (suc next) x) = i.given final (λ v k f. e v k (g.keeps.grows v k f)) in
      let rest : numbers (after_inside s ns (after (entered s ns) x)) y ≡ map (number_in final) (occurring around (next_behind (suc next) x) y) = g.given final e in
      ap (λ (z : List ℕ). z ++ numbers (after_inside s ns (after (entered s ns) x)) y) first ∙ ap (λ (z : List ℕ). map (number_in final) (occurring (inside next ns around) (suc next) x) ++ z) rest
      ∙ sym (map-append (number_in final) (occurring (inside next ns around) (suc next) x) (occurring around (next_behind (suc next) x) y)));
}

below_outside : {next later : ℕ} {around other : List Collecting} {known more : List Variable} → next ≤ later → Below next around known → Below later other more → Below later around more
below_outside h b c = record { binders = λ n. omega (arith, b.binders n, h); locals = c.locals }

pub goes : (x : Spellings) {m next : ℕ} {around : List Collecting} {known : List Variable} {s : State} → Stands m around known s → Below next around known → IsBelow m x → Goes m next around known s x (first_seen known (occurring around next x))
goes nothing {next = next} {around = around} {known = known} st be b = record { stands = st; below = be; keeps = keeps_all next around known; given = λ final e. refl }
goes (spelling n x) {m} {next} {around} {known} {s} st be b =
    let o : OneMore m next around known s n (added known (variable_at around n)) (after_one s n) = one_more n st be b.0 in
    goes_one n x o (goes x o.stands o.below b.1)
goes (collecting ns x y) {m} {next} {around} {known} {s} st be b =
    let more : List Variable = first_seen known (occurring (inside next ns around) (suc next) x) in
    let i : Goes m (suc next) (inside next ns around) known (entered s ns) x more = goes x (stands_inside ns st be b.0) (below_inside ns be) b.1 in
    let h : next ≤ next_behind (suc next) x = omega (arith, next_grows (suc next) x) in
    let g : Goes m (next_behind (suc next) x) around more (after_inside s ns (after (entered s ns) x)) y (first_seen more (occurring around (next_behind (suc next) x) y)) =
    goes y (stands_outside ns st be b.0 i.stands i.keeps) (below_outside h be i.below) b.2 in
    subst (λ (z : List Variable). Goes m next around known s (collecting ns x y) z) (sym (first_seen-append known (occurring (inside next ns around) (suc next) x) (occurring around (next_behind (suc next) x) y))) (goes_in ns x y i g)
