-- What agrees before a label agrees after it.
use Rattle.std.proofs.Common.{◌≡◌, List, [], ◌∷◌, ◌++◌, Some, refl, sym, ◌∙◌, ap, inl, inr}
use Rattle.std.specs.Prelude.{option_map}
use Rattle.akl_terms.specs.declared.name.Name.{Name}
use Rattle.akl_terms.specs.declared.program.Program.{Program}
use Rattle.akl_terms.specs.declared.program.Query.{Query}
use Rattle.akl_model.specs.declared.item.Item.{Item}
use Rattle.akl_model.specs.declared.label.Rule.{Rule}
use Rattle.akl_model.specs.declared.label.Label.{Label}
use Rattle.akl_model.specs.Config.{Content, Boxes, no_boxes, box, Goals, Config, with_names, with_ports}
use Rattle.akl_model.specs.Changes.{by_store, Changes, Constraint, constraint_of, constraint_at}
use Rattle.akl_model.specs.Derivations.{Applies, Replays}
use Rattle.akl_model.specs.Names.{HasDistinctNames}
use Rattle.akl_model.proofs.Options.{some_value}
use Rattle.akl_model.proofs.NamesKept.{Stand}
use Rattle.step_laws.specs.ChangedItems.{MayChange}
use Rattle.step_laws.proofs.Steps.{found, site_there, made as change_made}
use Rattle.step_laws.proofs.Same.{same}
use Rattle.step_laws.proofs.ChangedItems.{items_law}
use Rattle.plan_laws.specs.Local.{Told, told_to, with_new_tail, Becomes, NewGoals, reduces, made}
use Rattle.plan_laws.specs.Right.{IsRightOn}
use Rattle.plan_laws.specs.Wherever.{IsAsIn}
use Rattle.plan_laws.proofs.Between.{stand_of}
use Rattle.plan_laws.proofs.ByContents.{same_as}

back : (c d : Config) (i : Item) → IsAsIn c d i → IsAsIn d c i
back c d Item.Roots x = sym x
back c d (Item.Store n) x = sym x
back c d (Item.Goals n) x = sym x
back c d (Item.Goal g) x = sym x
back c d (Item.Binding v) x = tt

on_and_on : (c d e : Config) (i : Item) → IsAsIn c d i → IsAsIn d e i → IsAsIn c e i
on_and_on c d e Item.Roots x y = x ∙ y
on_and_on c d e (Item.Store n) x y = x ∙ y
on_and_on c d e (Item.Goals n) x y = x ∙ y
on_and_on c d e (Item.Goal g) x y = x ∙ y
on_and_on c d e (Item.Binding v) x y = tt

unchanged : (rules : List Rule) (p : Program) (c : Config) (l : Label) (e : Config) → Applies rules p c l e → (i : Item) → (Changes by_store c e i → ⊥) → IsAsIn c e i
unchanged rules p c l e a i h = same_as c e i (same rules p c (l ∷ []) e (e, a, refl) i (h, tt))

pub unwritten : (rules : List Rule) (p : Program) (l : Label) (q : Query) (journal : List Label) (c e : Config) → Replays rules p q journal c → (a : Applies rules p c l e)
    → (q2 : Query) (journal2 : List Label) (d f : Config) → Replays rules p q2 journal2 d → (b : Applies rules p d l f)
    → (i : Item) → (MayChange a i → ⊥) → (MayChange b i → ⊥) → IsAsIn c d i → IsAsIn e f i
unwritten rules p l q journal c e w a q2 journal2 d f v b i x y z =
    on_and_on e c f i (back c e i (unchanged rules p c l e a i (λ h. x (items_law rules p q journal c l e w a i h))))
    (on_and_on c d f i z (unchanged rules p d l f b i (λ h. y (items_law rules p q2 journal2 d l f v b i h))))

-- a constraint with something told
abbrev told_constraint : Told → Constraint → Constraint
told_constraint t k = record { frames = with_names t.frames k.frames; equations = k.equations ++ t.equations; ports = with_ports t.ports (with_new_tail t.tail k.ports) }

module _ (rules : List Rule) (p : Program) (c : Config) (s : Stand c) (l : Label) (e : Config) (a : Applies rules p c l e) (t : Told) (g : Name) (b : Becomes) (n : NewGoals) (h : a.change.boxes ≡ made (reduces t g b n) a.site) where
  pub store_before : constraint_at a.site.content.name c.roots ≡ Some (constraint_of a.site)
  store_before = ap (option_map constraint_of) (found rules p c l e s a)

  pub store_after : constraint_at a.site.content.name e.roots ≡ Some (told_constraint t (constraint_of a.site))
  store_after = elim (change_made rules p c l e s a) [
    | inl z ↦ let q : no_boxes ≡ made (reduces t g b n) a.site = sym z.1 ∙ h in cc
    | inr v ↦ ap (option_map constraint_of) (site_there rules p c l e s a v.0) ∙ ap (λ (k : Content). Some (record { frames = k.frames; equations = k.equations; ports = k.ports })) (first (sym v.0.is_change ∙ h))
  ]
    where
      first : {k : Content} {gs : Goals} {bs : Boxes} → box k gs bs ≡ made (reduces t g b n) a.site → k ≡ told_to t a.site.content
      first q = cc

pub own_store : (rules : List Rule) (p : Program) (c : Config) (l : Label) (e : Config) (a : Applies rules p c l e) (d : Config) → HasDistinctNames c → HasDistinctNames d → (r : IsRightOn a d)
    → (t : Told) (g : Name) (b : Becomes) (n : NewGoals) → r.change ≡ reduces t g b n → IsAsIn c d (Item.Store a.site.content.name) → IsAsIn e r.result (Item.Store a.site.content.name)
own_store rules p c l e a d hc hd r t g b n q x =
    let u : a.change.boxes ≡ made (reduces t g b n) a.site = r.before ∙ ap (λ (k : _). made k a.site) q in
    let v : r.applies.change.boxes ≡ made (reduces t g b n) r.applies.site = r.now ∙ ap (λ (k : _). made k r.applies.site) q in
    let y : constraint_at r.applies.site.content.name r.result.roots ≡ Some (told_constraint t (constraint_of r.applies.site)) = store_after rules p d (stand_of d hd) l r.result r.applies t g b n v in
    let z : constraint_at r.applies.site.content.name d.roots ≡ Some (constraint_of r.applies.site) = store_before rules p d (stand_of d hd) l r.result r.applies t g b n v in
    let w : constraint_at a.site.content.name d.roots ≡ Some (constraint_of r.applies.site) = ap (λ (m : Name). constraint_at m d.roots) r.same_site ∙ z in
    let i : constraint_of a.site ≡ constraint_of r.applies.site = some_value (sym (store_before rules p c (stand_of c hc) l e a t g b n u) ∙ x ∙ w) in
    store_after rules p c (stand_of c hc) l e a t g b n u ∙ ap (λ (k : Constraint). Some (told_constraint t k)) i ∙ sym (ap (λ (m : Name). constraint_at m r.result.roots) r.same_site ∙ y)
