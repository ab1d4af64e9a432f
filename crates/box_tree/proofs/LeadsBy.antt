-- What follows where a step has led from a table to another.
use Rattle.std.proofs.Common.{◌≡◌, ℕ, ◌+◌, ◌<◌, List, [], ◌∷◌, Bool, true, false, Option, Some, None, Vec, Global, refl, sym, ap, ◌∙◌, subst, inl, inr, arith}
use Rattle.std.specs.Prelude.{if◌then◌else◌, option_map}
use Rattle.akl_terms.specs.declared.name.Name.{Name}
use Rattle.akl_terms.specs.declared.name.Place.{Place}
use Rattle.akl_terms.specs.declared.program.Goal.{Goal}
use Rattle.akl_terms.specs.Names.{same_name}
use Rattle.akl_terms.proofs.SameNames.{same_name-equal}
use Rattle.akl_model.specs.declared.label.Label.{Label}
use Rattle.akl_model.specs.Config.{Atom}
use Rattle.akl_model.proofs.Options.{some_value}
use Rattle.local_store.specs.Stored.{Stored}
use Rattle.local_store.specs.Parts.{with_part}
use Rattle.local_store.specs.declared.part.Part.{Part}
use Rattle.table_laws.specs.Calls.{called_row, after_call}
use Rattle.table_laws.specs.Kept.{IsNewOrWas, KeepsStores}
use Rattle.table_laws.specs.Rows.{BoxRow, Table}
use Rattle.table_laws.specs.Steps as laws
use Rattle.table_laws.specs.Walks.{alternatives_of}
use Rattle.table_laws.specs.Writes.{IsTable, Leads, unset, home_in, changed_box, after_tell, after_join, solved_when}
use Rattle.table_laws.proofs.KeptStores.{store_kept}
use Rattle.table_laws.proofs.Sets.{not_some}
use Rattle.box_tree.specs.declared.step.Step.{Step}
use Rattle.box_tree.specs.Plans.{labels_behind}
use Rattle.box_tree.specs.Tables.{TableValue, Joins, LeadsBy, Makes, table_of, store_at, step_in}
use Rattle.box_tree.specs.Edits.{Becomes, named_atoms}

-- no label comes with the one by which goals join
join_alone : (t : TableValue) (g : Name) (store : Stored) (solved_at : Option ℕ) (goals : List (Name × Atom)) (told behind worker count : ℕ) (U : Table) → told ≡ 0 → behind ≡ 0
    → Joins t g store solved_at goals 0 told behind worker count U → IsTable U (after_join g store solved_at goals worker count (table_of t))
join_alone t g store solved_at goals told behind worker count U none ends x =
    let p : x.promoted ≡ t.steps + 1 = let n = x.number in omega (arith, n, ends) in
    let q : x.promoted + told ≡ t.steps + 1 = omega (arith, p, none) in
    let r : x.promoted + behind ≡ t.steps + 1 = omega (arith, p, ends) in
    subst (λ (n : ℕ). IsTable U (after_call g store solved_at goals worker count (t.steps + 1) (t.steps + 1) n (table_of t))) r
    (subst (λ (n : ℕ). IsTable U (after_call g store solved_at goals worker count (t.steps + 1) n (x.promoted + behind) (table_of t))) q
    (subst (λ (n : ℕ). IsTable U (after_call g store solved_at goals worker count n (x.promoted + told) (x.promoted + behind) (table_of t))) p x.table))

-- a goal tells its box by the step of a label
pub tell_applies : (t u : TableValue) (l : Label) (others : ℕ) (at : Option ℕ) (names : ℕ) (g : Name) (part : Part) (solved : Bool) → l.place ≡ Place.Goal g
    → Becomes t u (after_tell g (with_part (store_at (table_of t) (Place.Goal g)) part) (solved_when at solved) l.worker names (table_of t)) → Makes t l others at names (Step.Tell part solved) u
tell_applies t u l others at names g part solved place b = record {
  program = b.program;
  query = b.query;
  marks = b.marks;
  leads = subst (λ (p : Place). LeadsBy t (record l { place = p }) others at names (Step.Tell part solved) (table_of u)) (sym place) b.table;
}

-- goals join the box of a goal by the step of a label
pub join_applies : (t u : TableValue) (l : Label) (others : ℕ) (at : Option ℕ) (names : ℕ) (g : Name) (part : Part) (solved : Bool) (goals : Vec (Name × Goal) Global) (told behind promoted told_at ended : ℕ) → l.place ≡ Place.Goal g → t.steps < promoted
    → promoted + behind ≡ others + t.steps + 1 → told_at ≡ promoted + told → ended ≡ promoted + behind
    → Becomes t u (after_call g (with_part (store_at (table_of t) (Place.Goal g)) part) (solved_when at solved) (named_atoms t.program.templates.nodes goals.items) l.worker names promoted told_at ended (table_of t))
    → Makes t l others at names (Step.Join part solved goals told behind) u
join_applies t u l others at names g part solved goals told behind promoted told_at ended place later number is_told is_ended b = record {
  program = b.program;
  query = b.query;
  marks = b.marks;
  leads = subst (λ (p : Place). LeadsBy t (record l { place = p }) others at names (Step.Join part solved goals told behind) (table_of u)) (sym place) (record { promoted = promoted; later = later; number = number; table = now });
}
  where
    made : ℕ → ℕ → Table
    made n k = after_call g (with_part (store_at (table_of t) (Place.Goal g)) part) (solved_when at solved) (named_atoms t.program.templates.nodes goals.items) l.worker names promoted n k (table_of t)

    now : IsTable (table_of u) (made (promoted + told) (promoted + behind))
    now = subst (λ (k : ℕ). IsTable (table_of u) (made (promoted + told) k)) is_ended (subst (λ (n : ℕ). IsTable (table_of u) (made n ended)) is_told b.table)

-- the step of one label leads as that of a table
module _ (t : TableValue) (l : Label) (at : Option ℕ) (names : ℕ) (U : Table) where
  leads_at : (step : Step) (place : Place) → labels_behind step ≡ (0, 0) → LeadsBy t (record l { place = place }) 0 at names step U
      → Leads (table_of t) (record l { place = place }) at names (step_in t (record l { place = place }) step) U
  leads_at (Step.Tell part solved) place e x = x
  leads_at (Step.Fork op alternatives) place e x = x
  leads_at Step.Fail place e x = x
  leads_at Step.Cut place e x = x
  leads_at (Step.Join part solved goals told behind) (Place.Goal g) e x =
      join_alone t g (with_part (store_at (table_of t) (Place.Goal g)) part) (solved_when at solved) _ told behind l.worker names U (ap (λ (n : ℕ × ℕ). n.0) e) (ap (λ (n : ℕ × ℕ). n.1) e) x
  leads_at (Step.Join part solved goals told behind) (Place.Box n) e x = absurd x
  leads_at Step.Refute place e x = x
  leads_at Step.Confirm place e x = x
  leads_at (Step.Split copy copies) place e x = x

  pub leads_alone : (step : Step) → labels_behind step ≡ (0, 0) → LeadsBy t l 0 at names step U → Leads (table_of t) l at names (step_in t l step) U
  leads_alone step = leads_at step l.place

-- goals join the box of a goal
module _ (t : TableValue) (l : Label) (others : ℕ) (at : Option ℕ) (names : ℕ) (U : Table) (g : Name) where
  abbrev JoinsBy : laws.Step → ℕ × ℕ → Type 0
  JoinsBy (laws.joins new solved goals) behind = Joins t g new (solved_when at solved) goals others behind.0 behind.1 l.worker names U
  JoinsBy step behind = Unit {0}

  joins_by : (step : Step) → LeadsBy t (record l { place = Place.Goal g }) others at names step U → JoinsBy (step_in t (record l { place = Place.Goal g }) step) (labels_behind step)
  joins_by (Step.Tell part solved) x = tt
  joins_by (Step.Fork op alternatives) x = tt
  joins_by Step.Fail x = tt
  joins_by Step.Cut x = tt
  joins_by (Step.Join part solved goals told behind) x = x
  joins_by Step.Refute x = tt
  joins_by Step.Confirm x = tt
  joins_by (Step.Split copy copies) x = tt

  pub joined_by : (step : Step) (new : Stored) (solved : Bool) (goals : List (Name × Atom)) (told behind : ℕ) → step_in t l step ≡ laws.joins new solved goals → labels_behind step ≡ (told, behind)
      → l.place ≡ Place.Goal g → LeadsBy t l others at names step U → Joins t g new (solved_when at solved) goals others told behind l.worker names U
  joined_by step new solved goals told behind is ends place x = subst (λ (s : laws.Step). JoinsBy s (told, behind)) is (subst (JoinsBy (step_in t l step)) ends
      (subst (λ (p : Place). JoinsBy (step_in t (record l { place = p }) step) (labels_behind step)) (sym place) (joins_by step (subst (λ (p : Place). LeadsBy t (record l { place = p }) others at names step U) place x))))

-- a store came with the label that told it last, or it was there
module _ (g : Name) (new : Stored) (solved_at : Option ℕ) (goals : List (Name × Atom)) (told ended : ℕ) (at : Name → Option BoxRow) (m : Name) (row : BoxRow) where
  abbrev call : BoxRow → BoxRow
  call = called_row g new solved_at goals told ended

  mapped : (o : Option BoxRow) → option_map call o ≡ Some row → IsNewOrWas told o row
  mapped None e = absurd (not_some e)
  mapped (Some r) e = inl (sym (ap (λ (k : BoxRow). k.changed) (some_value e)))

  called_kept : (gone : List Name) (home : Option Name) → unset gone (changed_box home call at) m ≡ Some row → IsNewOrWas told (at m) row
  called_kept [] None e = inr (row, e, refl, refl)
  called_kept [] (Some n) e = on (same_name m n) refl e
    where
      on : (b : Bool) → same_name m n ≡ b → (if b then option_map call (at n) else at m) ≡ Some row → IsNewOrWas told (at m) row
      on true q i = subst (λ (k : Name). IsNewOrWas told (at k) row) (sym (same_name-equal m n q)) (mapped (at n) i)
      on false q i = inr (row, i, refl, refl)
  called_kept (n ∷ gone) home e = on (same_name m n) e (called_kept gone home)
    where
      on : (b : Bool) → (if b then None else unset gone (changed_box home call at) m) ≡ Some row → (unset gone (changed_box home call at) m ≡ Some row → IsNewOrWas told (at m) row) → IsNewOrWas told (at m) row
      on true i f = absurd (not_some i)
      on false i f = f i

-- the stores that don't come with one label of a step, behind all earlier ones, were there
module _ (t : TableValue) (l : Label) (others : ℕ) (at : Option ℕ) (names : ℕ) (U : Table) (later : t.steps < U.steps) where
  abbrev KeepsAfter : Type 0
  KeepsAfter = (number : ℕ) × (t.steps < number) × KeepsStores number (table_of t) U

  join_keeps : (g : Name) (store : Stored) (solved_at : Option ℕ) (goals : List (Name × Atom)) (told behind : ℕ) → Joins t g store solved_at goals others told behind l.worker names U → KeepsAfter
  join_keeps g store solved_at goals told behind x =
      let p : t.steps < x.promoted = x.later in (
        x.promoted + told,
        omega (arith, p),
        λ m row e. called_kept g store solved_at goals (x.promoted + told) (x.promoted + behind) (table_of t).box_of m row (alternatives_of ((table_of t).goal_of g)) (home_in ((table_of t).goal_of g)) (sym (x.table.boxes m) ∙ e),
      )

  led : (step : Step) (place : Place) → Leads (table_of t) (record l { place = place }) at names (step_in t (record l { place = place }) step) U → KeepsAfter
  led step place x = (U.steps, later, store_kept (table_of t) U (record l { place = place }) at names (step_in t (record l { place = place }) step) x)

  keeps_at : (step : Step) (place : Place) → LeadsBy t (record l { place = place }) others at names step U → KeepsAfter
  keeps_at (Step.Tell part solved) place x = led (Step.Tell part solved) place x
  keeps_at (Step.Fork op alternatives) place x = led (Step.Fork op alternatives) place x
  keeps_at Step.Fail place x = led Step.Fail place x
  keeps_at Step.Cut place x = led Step.Cut place x
  keeps_at (Step.Join part solved goals told behind) (Place.Goal g) x = join_keeps g (with_part (store_at (table_of t) (Place.Goal g)) part) (solved_when at solved) _ told behind x
  keeps_at (Step.Join part solved goals told behind) (Place.Box n) x = absurd x
  keeps_at Step.Refute place x = led Step.Refute place x
  keeps_at Step.Confirm place x = led Step.Confirm place x
  keeps_at (Step.Split copy copies) place x = led (Step.Split copy copies) place x

  pub stores_kept : (step : Step) → LeadsBy t l others at names step U → KeepsAfter
  stores_kept step = keeps_at step l.place
