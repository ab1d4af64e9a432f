-- What a plan lists as bound is enough to read, in a root box.
use Rattle.std.proofs.Common.{◌≡◌, List, [], ◌∷◌, ◌++◌, Some, sym, ◌∙◌, ap, subst, inl, inr, append-nil}
use Rattle.std.specs.Prelude.{◌↔◌}
use Rattle.akl_terms.specs.declared.name.Name.{Name}
use Rattle.akl_terms.specs.declared.name.Var.{Var}
use Rattle.akl_terms.specs.declared.program.Program.{Program}
use Rattle.akl_terms.specs.Tree.{Tree, variable}
use Rattle.akl_terms.specs.Equal.{Equations, IsTold, Equal, told, turned, joined, Follows, IsConsistent, IsQuiet}
use Rattle.akl_terms.specs.Touching.{IsLocal, IsOutside, Touches}
use Rattle.akl_terms.proofs.EqualLaws.{Equal-follows, IsConsistent-follows, IsTold-right, IsTold-either}
use Rattle.constraint_laws.specs.Bound.{IsNewlyBound}
use Rattle.constraint_laws.specs.Growth.{TellsOver, TouchesNothing}
use Rattle.constraint_laws.specs.Oldest.{IsOldest}
use Rattle.constraint_laws.specs.Touched.{IsAmong}
use Rattle.constraint_laws.proofs.Beside.{left_follows}
use Rattle.constraint_laws.proofs.Decided.{equal_or}
use Rattle.constraint_laws.proofs.NothingTouched.{nothing_touched_grows}
use Rattle.akl_model.specs.declared.label.Rule.{Rule}
use Rattle.akl_model.specs.declared.label.Label.{Label}
use Rattle.akl_model.specs.Config.{Content, Config, Found, equations_of, whole, box_at}
use Rattle.akl_model.specs.Derivations.{Applies, Replays}
use Rattle.akl_model.proofs.NamesKept.{site-box}
use Rattle.akl_model.proofs.Options.{some_value}
use Rattle.akl_model.proofs.Results.{Applies-one, Derives-append}
use Rattle.step_laws.specs.Bound.{first_equations, outermost_equations, AreBoundIn}
use Rattle.step_laws.specs.Stays.{GoesOn}
use Rattle.plan_laws.specs.Local as local
use Rattle.plan_laws.specs.Local.{reduces, made}
use Rattle.plan_laws.specs.Right.{IsRightOn}
use Rattle.plan_laws.proofs.InScope.{Good}
use Rattle.reading_laws.specs.Closed.{Spares}
use Rattle.reading_laws.specs.Listed.{ReadsListed}
use Rattle.reading_laws.proofs.Beside.{beside_law}
use Rattle.reading_laws.proofs.Outermost.{bound_told, told_binds}
use Rattle.plan_laws.proofs.Replayed.{good_replay, replay_further}
use Rattle.reading_laws.proofs.RootUnbound.{many_spares}

-- a variable is bound with what is equal to it
pub class_bound : (E G : Equations) → Follows E G → (x y : Var) → Equal E (variable x) (variable y) → IsNewlyBound E G x → IsNewlyBound E G y
class_bound E G f x y e b = record {
  unstructured = λ w. b.unstructured (w.0, w.1, joined e w.2, w.3);
  told = elim b.told [
    | inl w ↦ inl (w.0, w.1, joined (turned (Equal-follows f e)) w.2, w.3)
    | inr (z, k, d) ↦ inr (z, joined (turned (Equal-follows f e)) k, λ q. d (joined e q))
  ];
}

module _ (rules : List Rule) (p : Program) (c : Config) (ls : List Label) (d : Config) (w : GoesOn rules p c ls d) (l : Label) (e : Config) (a : Applies rules p c l e) (r : IsRightOn a d) (told : local.Told) (list : List Var)
    (bound : AreBoundIn c e a.site list) (u : ReadsListed w a r told list) where
  good_c : Good c
  good_c = good_replay rules p w.query w.journal c w.replays

  good_e : Good e
  good_e = good_replay rules p w.query (w.journal ++ l ∷ []) e (replay_further rules p w.query w.journal c l e w.replays a)

  later : Replays rules p w.query (w.journal ++ ls) d
  later = record { derives = Derives-append rules p (Rattle.akl_model.specs.Instances.start p w.query) c d w.journal ls w.replays.derives w.derives }

  good_d : Good d
  good_d = good_replay rules p w.query (w.journal ++ ls) d later

  good_result : Good r.result
  good_result = good_replay rules p w.query ((w.journal ++ ls) ++ l ∷ []) r.result (replay_further rules p w.query (w.journal ++ ls) d l r.result later r.applies)

  here : box_at a.site.content.name c.roots ≡ Some a.site
  here = site-box l.place c.roots a.site good_c.stand.once a.is_site

  there : box_at a.site.content.name d.roots ≡ Some r.applies.site
  there = subst (λ (m : Name). box_at m d.roots ≡ Some r.applies.site) (sym r.same_site) (site-box l.place d.roots r.applies.site good_d.stand.once r.applies.is_site)

  before : a.change.boxes ≡ made (reduces told u.goal u.becomes u.new) a.site
  before = r.before ∙ ap (λ (x : local.Delta). made x a.site) u.change

  afterwards : r.applies.change.boxes ≡ made (reduces told u.goal u.becomes u.new) r.applies.site
  afterwards = r.now ∙ ap (λ (x : local.Delta). made x r.applies.site) u.change

  spares : Spares (λ x. IsAmong x list) (whole a.site) (whole r.applies.site)
  spares = many_spares (λ x. IsAmong x list) rules p w.query w.journal c ls d w.replays w.derives a.site.content.name a.site r.applies.site here u.root there u.consistent u.bindings

  grows : Follows (whole a.site) (whole r.applies.site)
  grows = spares.grows

  inner : Follows (whole a.site ++ told.equations) (whole r.applies.site ++ told.equations)
  inner = record {
    each = λ {s} {t} m. elim (IsTold-either (whole a.site) told.equations s t m) [
      | inl x ↦ Equal-follows (left_follows (whole r.applies.site) told.equations) (grows.each x)
      | inr x ↦ Rattle.akl_terms.specs.Equal.told (IsTold-right (whole r.applies.site) told.equations s t x)
    ];
  }

  -- the outermost box is the box itself
  out : (f : Found) → f.around ≡ [] → outermost_equations f ≡ whole f
  out f q = ap (λ (xs : List Content). first_equations (xs ++ f.content ∷ [])) q ∙ sym (ap (λ (xs : List Content). equations_of xs ++ f.content.equations) q)

  root_now : r.applies.site.around ≡ []
  root_now = Rattle.reading_laws.proofs.Ends.none_around r.applies.site.around (sym r.same_around ∙ ap (Rattle.std.specs.Prelude.map (λ (b : Content). b.name)) u.root)

  module _ (h : IsConsistent (whole a.site ++ told.equations)) where
    -- what the label binds isn't bound since
    unbound : (x : Var) → IsNewlyBound (whole a.site) (whole a.site ++ told.equations) x → IsNewlyBound (whole a.site) (whole r.applies.site) x → ⊥
    unbound x z y =
        let k : (v : Var) × IsAmong v list × Equal (outermost_equations a.site) (variable x) (variable v) =
        bound.every x (told_binds rules p c l e good_c good_e a told u.goal u.becomes u.new before x h z) in
        spares.unbound k.0 k.1 (class_bound (whole a.site) (whole r.applies.site) grows x k.0 (subst (λ (E : Equations). Equal E (variable x) (variable k.0)) (out a.site u.root) k.2) y)

    beside : IsConsistent (whole r.applies.site ++ told.equations) × ((x : Var) → IsNewlyBound (whole a.site) (whole a.site ++ told.equations) x ↔ IsNewlyBound (whole r.applies.site) (whole r.applies.site ++ told.equations) x)
    beside = beside_law (whole a.site) (whole r.applies.site) told.equations grows u.consistent h unbound

  clash : IsConsistent (whole a.site ++ told.equations) ↔ IsConsistent (whole r.applies.site ++ told.equations)
  clash = (λ h. (beside h).0, λ h. IsConsistent-follows inner h)

  listed : (x : Var) → IsAmong x list → IsConsistent (whole a.site ++ told.equations) × IsNewlyBound (whole a.site) (whole a.site ++ told.equations) x
  listed x m = bound_told rules p c l e good_c good_e a told u.goal u.becomes u.new before x (bound.each x m)

  -- a listed variable has its class
  same_class : (x y : Var) → IsAmong x list → Equal (whole r.applies.site) (variable x) (variable y) → Equal (whole a.site) (variable x) (variable y)
  same_class x y m q = elim (equal_or (whole a.site) (variable x) (variable y)) [
    | inl z ↦ z
    | inr z ↦ absurd (spares.unbound x m (record { unstructured = (listed x m).1.unstructured; told = inr (y, q, z) }))
  ]

  again : AreBoundIn d r.result r.applies.site list
  again = record {
    each = λ y m.
        let z : IsConsistent (whole a.site ++ told.equations) × IsNewlyBound (whole a.site) (whole a.site ++ told.equations) y = listed y m in
        told_binds rules p d l r.result good_d good_result r.applies told u.goal u.becomes u.new afterwards y (clash.0 z.0) (((beside z.0).1 y).0 z.1);
    every = λ x b.
        let z : IsConsistent (whole r.applies.site ++ told.equations) × IsNewlyBound (whole r.applies.site) (whole r.applies.site ++ told.equations) x =
        bound_told rules p d l r.result good_d good_result r.applies told u.goal u.becomes u.new afterwards x b in
        let h : IsConsistent (whole a.site ++ told.equations) = clash.1 z.0 in
        let k : (y : Var) × IsAmong y list × Equal (outermost_equations a.site) (variable x) (variable y) =
        bound.every x (told_binds rules p c l e good_c good_e a told u.goal u.becomes u.new before x h (((beside h).1 x).1 z.1)) in
        (k.0, k.1, subst (λ (E : Equations). Equal E (variable x) (variable k.0)) (sym (out r.applies.site root_now)) (Equal-follows grows (subst (λ (E : Equations). Equal E (variable x) (variable k.0)) (out a.site u.root) k.2)));
    oldest = λ x y m o. bound.oldest x y m (older x y m (subst (λ (E : Equations). IsOldest E x y) (out r.applies.site root_now) o));
  }
    where
      older : (x y : Var) → IsAmong x list → IsOldest (whole r.applies.site) x y → IsOldest (outermost_equations a.site) x y
      older x y m o = subst (λ (E : Equations). IsOldest E x y) (sym (out a.site u.root)) (record { equal = same_class x y m o.equal; oldest = λ v q. o.oldest v (Equal-follows grows q) })

  pub listed_law : (IsConsistent (whole a.site ++ told.equations) ↔ IsConsistent (whole r.applies.site ++ told.equations)) × ((result : Config) (now : Applies rules p d l result) → AreBoundIn d result now.site list)
  listed_law = (
    clash,
    λ result now. subst (λ (f : Found). AreBoundIn d result f list) (some_value (sym r.applies.is_site ∙ now.is_site))
        (subst (λ (k : Config). AreBoundIn d k r.applies.site list) (Applies-one r.applies now) again),
  )

-- quiet equations touch nothing from outside
pub quiet_stays : (E G C : Equations) (local : List Name) → ((s t : Tree) → IsTold E s t → IsTold G s t) → TellsOver (IsOutside local) G → IsConsistent G → IsQuiet E (IsLocal local) C → IsQuiet G (IsLocal local) C
quiet_stays E G C local keeps over consistent q = subst (λ (X : Equations). IsQuiet X (IsLocal local) C) (append-nil G) (grown.1 (subst (λ (X : Equations). IsQuiet X (IsLocal local) C) (sym (append-nil E)) q))
  where
    nothing : TouchesNothing local E (E ++ [])
    nothing = record {
      consistent = subst IsConsistent (sym (append-nil E)) (IsConsistent-follows (left_follows E C) q.consistent);
      untouched = λ x t. let u : Touches local E E x = subst (λ (X : Equations). Touches local E X x) (append-nil E) t in elim u.told [ inl w ↦ u.unbound.unstructured w | inr (y, tie) ↦ tie.apart tie.equal ];
    }

    own : TouchesNothing local E ((E ++ []) ++ C)
    own = record {
      consistent = subst (λ (X : Equations). IsConsistent (X ++ C)) (sym (append-nil E)) q.consistent;
      untouched = λ x t. let u : Touches local E (E ++ C) x = subst (λ (X : Equations). Touches local E (X ++ C) x) (append-nil E) t in elim u.told [
        | inl w ↦ u.unbound.unstructured (q.structured x u.unbound.outside w)
        | inr (y, tie) ↦ tie.apart (q.equal x y u.unbound.outside tie.other.outside u.unbound.unstructured tie.other.unstructured tie.equal)
      ];
    }

    grown : TouchesNothing local G ((G ++ []) ++ C) × (IsQuiet (E ++ []) (IsLocal local) C → IsQuiet (G ++ []) (IsLocal local) C) × (IsQuiet (G ++ []) (IsLocal local) C → IsQuiet (E ++ []) (IsLocal local) C)
    grown = nothing_touched_grows local local E G [] C (record { over_old = record { each = λ s t m. over.each s t (keeps s t m) }; over_new = over; keeps = keeps; consistent = consistent }) nothing own (λ x i. i)
