-- What is listed as bound is so later, where none of it was bound since, nor any of a list that is enough for the box.
use Rattle.akl_model.specs.declared.item.Item.{Item}
use Rattle.std.proofs.Common.{refl, ◌≡◌, List, [], ◌++◌, Some, sym, ◌∙◌, subst, inl, inr}
use Rattle.std.specs.Prelude.{◌↔◌}
use Rattle.akl_terms.specs.declared.name.Name.{Name}
use Rattle.akl_terms.specs.declared.name.Var.{Var}
use Rattle.akl_terms.specs.declared.program.Program.{Program}
use Rattle.akl_terms.specs.Tree.{variable}
use Rattle.akl_terms.specs.Equal.{Equations, Equal, told, Follows, IsConsistent}
use Rattle.akl_terms.proofs.EqualLaws.{Equal-follows, IsConsistent-follows, IsTold-right, IsTold-either}
use Rattle.constraint_laws.specs.Bound.{IsNewlyBound}
use Rattle.constraint_laws.specs.Touched.{IsAmong}
use Rattle.constraint_laws.proofs.Beside.{left_follows}
use Rattle.constraint_laws.proofs.Decided.{equal_or}
use Rattle.akl_model.specs.declared.label.Rule.{Rule}
use Rattle.akl_model.specs.declared.label.Label.{Label}
use Rattle.akl_model.specs.Config.{Config, Found, whole, box_at}
use Rattle.akl_model.proofs.Options.{some_value}
use Rattle.step_laws.specs.Bound.{outermost_equations}
use Rattle.step_laws.specs.Stays.{GoesOn}
use Rattle.reading_laws.specs.Unchanged.{Unchanged, AreEnough}
use Rattle.reading_laws.specs.Boxes.{BoxesUnchanged, EndUnchanged, StaysUnbound}
use Rattle.reading_laws.proofs.Beside.{beside_law}
use Rattle.reading_laws.proofs.Outermost.{HasFirst}
use Rattle.reading_laws.proofs.RootsAlong.{first_found, first_follows, first_outermost, first_named, first_before, first_now, first_there, first_grows}
use Rattle.reading_laws.proofs.InnerUnbound.{not_bound}
use Rattle.reading_laws.proofs.Listed.{class_bound}
use Rattle.reading_laws.proofs.Starts.{root_enough}
use Rattle.reading_laws.proofs.Boxes.{enough_unbound}
use Rattle.constraint_laws.specs.Oldest.{IsOldest, HasOldest}

-- equations that are added to others bind each of a list, and what they bind is equal to one of it by the outermost ones, of which it has the oldest
pub record AreListed (E added out : Equations) (list : List Var) : Type 0 where
  pub each : (y : Var) → IsAmong y list → IsConsistent (E ++ added) × IsNewlyBound E (E ++ added) y
  pub every : IsConsistent (E ++ added) → (x : Var) → IsNewlyBound E (E ++ added) x → (y : Var) × IsAmong y list × Equal out (variable x) (variable y)
  pub oldest : HasOldest out list

module _ (rules : List Rule) (p : Program) (c : Config) (ls : List Label) (d : Config) (w : GoesOn rules p c ls d) (f k : Found) (here : box_at f.content.name c.roots ≡ Some f) (there : box_at f.content.name d.roots ≡ Some k)
    (added : Equations) (list inner : List Var) (bound : AreListed (whole f) added (outermost_equations f) list) (stores : BoxesUnchanged rules p c ls d w.derives f) (enough : AreEnough inner f)
    (within : (x : Var) → IsAmong x inner → EndUnchanged rules p c ls d w.derives (outermost_equations f) x) (bindings : (x : Var) → IsAmong x list → Unchanged rules p c ls d w.derives (Item.Binding x)) where
  alike : StaysUnbound (λ x. IsAmong x inner) d f.content.name f
  alike = enough_unbound rules p w.query w.journal c ls d w.replays w.derives f.content.name f inner here stores enough within

  is_now : alike.now ≡ k
  is_now = some_value (sym alike.is ∙ there)

  grows : Follows (whole f) (whole k)
  grows = subst (λ (k : Found). Follows (whole f) (whole k)) is_now alike.grows

  wider : Follows (whole f ++ added) (whole k ++ added)
  wider = record {
    each = λ {s} {t} m. elim (IsTold-either (whole f) added s t m) [
      | inl x ↦ Equal-follows (left_follows (whole k) added) (grows.each x)
      | inr x ↦ told (IsTold-right (whole k) added s t x)
    ];
  }

  -- the outermost box, before and now
  abbrev root : HasFirst c f
  root = first_before rules p c ls d w f.content.name f k here there

  abbrev now : HasFirst d k
  now = first_now rules p c ls d w f.content.name f k here there

  out_before : outermost_equations f ≡ root.content.equations
  out_before = first_outermost c f root

  out_now : outermost_equations k ≡ now.content.equations
  out_now = first_outermost d k now

  out_grows : Follows root.content.equations now.content.equations
  out_grows = first_grows rules p c ls d w f.content.name f k here there

  root_follows : Follows root.content.equations (whole f)
  root_follows = first_follows c f root

  module _ (h : IsConsistent (whole f ++ added)) where
    still : IsConsistent (whole f)
    still = IsConsistent-follows (left_follows (whole f) added) h

    consistent_now : IsConsistent (whole k)
    consistent_now = subst (λ (b : Found). IsConsistent (whole b)) is_now (alike.spares still).consistent

    -- a listed variable isn't bound since, neither in the box nor in the outermost one
    unlisted : (y : Var) → IsAmong y list → IsNewlyBound (whole f) (whole k) y → ⊥
    unlisted y m b = not_bound rules p w.query w.journal c ls d w.replays w.derives f.content.name f k inner here there still stores enough within y (bindings y m) b

    out_unlisted : (y : Var) → IsAmong y list → IsNewlyBound root.content.equations now.content.equations y → ⊥
    out_unlisted y m b = not_bound rules p w.query w.journal c ls d w.replays w.derives root.content.name (first_found root) (first_found now) [] root.found (first_there rules p c ls d w f.content.name f k here there) (IsConsistent-follows root_follows still)
        (λ k i. elim i [ inl q ↦ subst (λ (k : Name). Unchanged rules p c ls d w.derives (Item.Store k)) (sym q) (stores root.content.name (first_named c f root)) | inr q ↦ absurd q ])
        (root_enough (first_found root) refl) (λ x i. absurd i) y (bindings y m) b

    -- so what the label binds isn't
    unbound : (x : Var) → IsNewlyBound (whole f) (whole f ++ added) x → IsNewlyBound (whole f) (whole k) x → ⊥
    unbound x z y =
        let o : (v : Var) × IsAmong v list × Equal (outermost_equations f) (variable x) (variable v) = bound.every h x z in
        unlisted o.0 o.1 (class_bound (whole f) (whole k) grows x o.0 (Equal-follows root_follows (subst (λ (E : Equations). Equal E (variable x) (variable o.0)) out_before o.2)) y)

    beside : IsConsistent (whole k ++ added) × ((x : Var) → IsNewlyBound (whole f) (whole f ++ added) x ↔ IsNewlyBound (whole k) (whole k ++ added) x)
    beside = beside_law (whole f) (whole k) added grows consistent_now h unbound

    -- a listed variable has its class in the outermost box
    out_class : (x y : Var) → IsAmong x list → IsNewlyBound (whole f) (whole f ++ added) x → Equal now.content.equations (variable x) (variable y) → Equal root.content.equations (variable x) (variable y)
    out_class x y m z q = elim (equal_or root.content.equations (variable x) (variable y)) [
      | inl k ↦ k
      | inr k ↦ absurd (out_unlisted x m (record { unstructured = λ s. z.unstructured (s.0, s.1, Equal-follows root_follows s.2, s.3); told = inr (y, q, k) }))
    ]

  clash : IsConsistent (whole f ++ added) ↔ IsConsistent (whole k ++ added)
  clash = (λ h. (beside h).0, λ h. IsConsistent-follows wider h)

  again : AreListed (whole k) added (outermost_equations k) list
  again = record {
    each = λ y m. let z : IsConsistent (whole f ++ added) × IsNewlyBound (whole f) (whole f ++ added) y = bound.each y m in (clash.0 z.0, ((beside z.0).1 y).0 z.1);
    every = λ g x b.
        let h : IsConsistent (whole f ++ added) = clash.1 g in
        let o : (y : Var) × IsAmong y list × Equal (outermost_equations f) (variable x) (variable y) = bound.every h x (((beside h).1 x).1 b) in
        (o.0, o.1, subst (λ (E : Equations). Equal E (variable x) (variable o.0)) (sym out_now) (Equal-follows out_grows (subst (λ (E : Equations). Equal E (variable x) (variable o.0)) out_before o.2)));
    oldest = λ x y m o. bound.oldest x y m (older x y m (subst (λ (E : Equations). IsOldest E x y) out_now o));
  }
    where
      older : (x y : Var) → IsAmong x list → IsOldest now.content.equations x y → IsOldest (outermost_equations f) x y
      older x y m o = let z : IsConsistent (whole f ++ added) × IsNewlyBound (whole f) (whole f ++ added) x = bound.each x m in
          subst (λ (E : Equations). IsOldest E x y) (sym out_before) (record { equal = out_class z.0 x y m z.1 o.equal; oldest = λ v q. o.oldest v (Equal-follows out_grows q) })

  pub listed_later : (IsConsistent (whole f ++ added) ↔ IsConsistent (whole k ++ added)) × AreListed (whole k) added (outermost_equations k) list
  listed_later = (clash, again)
