-- A root box over many labels that leave it consistent, and bind none of some variables.
use Rattle.std.proofs.Common.{◌≡◌, ◌≤◌, ◌<◌, List, [], ◌∷◌, ◌++◌, map, Some, sym, ◌∙◌, ap, subst, ◌⊎◌, inl, inr, arith}
use Rattle.std.specs.Prelude.{slice_index}
use Rattle.akl_terms.specs.declared.name.Name.{Name}
use Rattle.akl_terms.specs.declared.name.Var.{Var}
use Rattle.akl_terms.specs.declared.program.Program.{Program}
use Rattle.akl_terms.specs.declared.program.Query.{Query}
use Rattle.akl_terms.specs.Tree.{variable}
use Rattle.akl_terms.specs.Equal.{Equations, Equal, told, Follows, IsConsistent, IsStructured}
use Rattle.akl_terms.proofs.EqualLaws.{IsConsistent-follows}
use Rattle.constraint_laws.specs.Bound.{IsNewlyBound}
use Rattle.akl_model.specs.declared.item.Item.{Item}
use Rattle.akl_model.specs.declared.label.Rule.{Rule}
use Rattle.akl_model.specs.declared.label.Label.{Label}
use Rattle.akl_model.specs.Config.{Content, Config, Found, equations_of, whole, box_at}
use Rattle.akl_model.specs.Derivations.{Applies, Derives, Replays}
use Rattle.akl_model.proofs.NamesKept.{box-itself}
use Rattle.akl_model.proofs.NextNumbers.{next_least}
use Rattle.step_laws.specs.Likeness.{IsOld}
use Rattle.step_laws.proofs.Steps as steps
use Rattle.step_laws.proofs.Steps.{later, IsNew, WasThere, names_kept}
use Rattle.step_laws.proofs.StaysLaws.{equations_grow}
use Rattle.step_laws.proofs.Whereabouts.{found_in, in_found}
use Rattle.plan_laws.proofs.InScope.{Good}
use Rattle.plan_laws.proofs.Moves.{moved}
use Rattle.reading_laws.specs.Closed.{Spares}
use Rattle.reading_laws.specs.Unchanged.{Unchanged}
use Rattle.reading_laws.proofs.Inner.{together}
use Rattle.reading_laws.proofs.Path.{spares_itself}
use Rattle.plan_laws.proofs.Replayed.{good_replay, replay_further}
use Rattle.reading_laws.proofs.Labels.{step_follows}
use Rattle.reading_laws.proofs.Ends.{none_around}

-- one label
module _ (rules : List Rule) (p : Program) (c : Config) (l : Label) (d : Config) (w : Good c) (v : Good d) (a : Applies rules p c l d) (n : Name) (f g : Found) (e : box_at n c.roots ≡ Some f) (root : f.around ≡ [])
    (i : box_at n d.roots ≡ Some g) (h : IsConsistent (whole g)) (R : Var → Type 0) (unbound : (x : Var) → R x → Rattle.akl_model.specs.Changes.Changes Rattle.akl_model.specs.Changes.by_binding c d (Item.Binding x) → ⊥) where
  pub still_root : g.around ≡ []
  still_root = none_around g.around (names_kept l.worker (slice_index c.next l.worker) a.site a.change f g (moved rules p c l d w v a n f g e i) ∙ ap (map (λ (b : Content). b.name)) root)

  grows : Follows (whole f) (whole g)
  grows = step_follows rules p c l d w v a n f g e i

  pub one_spares : Spares R (whole f) (whole g)
  one_spares = record { grows = grows; consistent = h; unbound = λ x r b. unbound x r (n, record { adds = record { before = f; afterwards = g; was = e; is = i; more = λ s. differ x b (no_more s) }; consistent = h; newly_bound = b }) }
    where
      no_more : g.content.equations ≡ f.content.equations → whole g ≡ whole f
      no_more s = λ j. equations_of ((still_root ∙ sym root) j) ++ s j

      differ : (x : Var) → IsNewlyBound (whole f) (whole g) x → whole g ≡ whole f → ⊥
      differ x b s = elim b.told [
        | inl k ↦ b.unstructured (subst (λ (E : Equations). IsStructured E x) s k)
        | inr (y, k, apart) ↦ apart (subst (λ (E : Equations). Equal E (variable x) (variable y)) s k)
      ]

-- a box that is there before and afterwards is there between
pub between : (rules : List Rule) (p : Program) (c : Config) (l : Label) (m d : Config) (ls : List Label) → Good c → Good m → Applies rules p c l m → Derives rules p m ls d → (n : Name) (f g : Found) → box_at n c.roots ≡ Some f → box_at n d.roots ≡ Some g
    → (k : Found) × (box_at n m.roots ≡ Some k)
between rules p c l m d ls w v a t n f g e i = on ((later rules p m d ls v.stand t).each g (found_in n d.roots g i))
  where
    old : IsOld c g.content.name
    old = subst (IsOld c) (sym (box-itself n c.roots f e) ∙ box-itself n d.roots g i) (steps.old_box c w.stand f (found_in n c.roots f e))

    old_too : IsOld m g.content.name
    old_too = let z : slice_index c.next g.content.name.worker ≤ slice_index m.next g.content.name.worker = next_least rules p c l m a g.content.name.worker in let y : g.content.name.number < slice_index c.next g.content.name.worker = old in omega (arith, z, y)

    on : IsNew m g ⊎ WasThere m g → (k : Found) × (box_at n m.roots ≡ Some k)
    on (inl x) = absurd (x.name old_too)
    on (inr x) = (x.before, subst (λ (b : Name). box_at b m.roots ≡ Some x.before) (x.like.name ∙ sym (box-itself n d.roots g i)) (in_found m.roots x.before v.stand.once x.stood))

pub many_spares : (R : Var → Type 0) (rules : List Rule) (p : Program) (q : Query) (journal : List Label) (c : Config) (ls : List Label) (d : Config) → Replays rules p q journal c → (w : Derives rules p c ls d)
    → (n : Name) (f g : Found) → box_at n c.roots ≡ Some f → f.around ≡ [] → box_at n d.roots ≡ Some g → IsConsistent (whole g) → ((x : Var) → R x → Unchanged rules p c ls d w (Item.Binding x)) → Spares R (whole f) (whole g)
many_spares R rules p q journal c [] d r w n f g e root i h u =
    let same : f ≡ g = Rattle.akl_model.proofs.Options.some_value (sym e ∙ ap (λ (k : Config). box_at n k.roots) w ∙ i) in
    subst (λ (k : Found). Spares R (whole f) (whole k)) same (spares_itself R (whole f) (subst (λ (k : Found). IsConsistent (whole k)) (sym same) h))
many_spares R rules p q journal c (l ∷ ls) d r w n f g e root i h u =
    let r1 : Replays rules p q (journal ++ l ∷ []) w.0 = replay_further rules p q journal c l w.0 r w.1 in
    let gc : Good c = good_replay rules p q journal c r in
    let gm : Good w.0 = good_replay rules p q (journal ++ l ∷ []) w.0 r1 in
    let k : (k : Found) × (box_at n w.0.roots ≡ Some k) = between rules p c l w.0 d ls gc gm w.1 w.2 n f g e i in
    let grown : Follows (whole k.0) (whole g) = record { each = λ {s} {t} m. told (equations_grow rules p w.0 ls d (record { query = q; journal = journal ++ l ∷ []; replays = r1; derives = w.2 }) n k.0 g k.1 i s t m) } in
    let still : IsConsistent (whole k.0) = IsConsistent-follows grown h in
    together R (whole f) (whole k.0) (whole g) (one_spares rules p c l w.0 gc gm w.1 n f k.0 e root k.1 still R (λ x z. (u x z).0))
    (many_spares R rules p q (journal ++ l ∷ []) w.0 ls d r1 w.2 n k.0 g k.1 (still_root rules p c l w.0 gc gm w.1 n f k.0 e root k.1 still R (λ x z. (u x z).0)) i h (λ x z. (u x z).1))
