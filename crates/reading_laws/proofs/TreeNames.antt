-- Names in the tree of a box over labels: none comes that was drawn before.
use Rattle.std.proofs.Common.{◌≡◌, ℕ, ◌+◌, ◌≤◌, ◌<◌, List, [], ◌∷◌, ◌++◌, Some, None, refl, sym, ◌∙◌, ap, ◌⊎◌, inl, inr, arith}
use Rattle.std.specs.Prelude.{slice_index}
use Rattle.akl_terms.specs.declared.name.Name.{Name}
use Rattle.akl_terms.specs.declared.program.Program.{Program}
use Rattle.akl_terms.specs.declared.program.Query.{Query}
use Rattle.akl_model.specs.declared.label.Rule.{Rule}
use Rattle.akl_model.specs.declared.label.Label.{Label}
use Rattle.akl_model.specs.Config.{Content, Boxes, no_boxes, box, Goals, Config, Found, box_at, box_inside, edited, edited_inside}
use Rattle.akl_model.specs.Derivations.{Applies, Derives, Replays}
use Rattle.akl_model.specs.Stable.{only}
use Rattle.akl_model.proofs.Drawn.{drawn_times}
use Rattle.akl_model.proofs.Finds.{zero_or, times, times_of, times_inside, times-edited, times-edited_inside, edited_inside-none}
use Rattle.akl_model.proofs.NamesKept.{Stand, added, site-box, inside-itself}
use Rattle.akl_model.proofs.NextNumbers.{next_least}
use Rattle.akl_model.proofs.Options.{none_or, some_value}
use Rattle.akl_model.proofs.ScopesAlong.{times_path}
use Rattle.step_laws.specs.Likeness.{IsOld}
use Rattle.step_laws.specs.Whereabouts.{BoxIn, Stands}
use Rattle.step_laws.proofs.Deeper.{in_deeper, one_box}
use Rattle.step_laws.proofs.Steps as steps
use Rattle.step_laws.proofs.Steps.{Moved, aside, at_site, inside}
use Rattle.step_laws.proofs.Whereabouts.{found_in, found_among, in_counted}
use Rattle.plan_laws.proofs.InScope.{Good}
use Rattle.plan_laws.proofs.Moves.{moved}
use Rattle.plan_laws.proofs.Replayed.{good_replay, replay_further}
use Rattle.reading_laws.proofs.RootUnbound.{between}

module _ (rules : List Rule) (p : Program) (c : Config) (l : Label) (d : Config) (s : Stand c) (a : Applies rules p c l d) (m : Name) where
  abbrev drawn : ℕ
  drawn = drawn_times m l.worker (slice_index c.next l.worker) a.change.drawn

  few : times m a.change.boxes ≤ times m (only a.site) + drawn
  few =
      let e : times m (edited a.site.content.name a.change.boxes c.roots) + times m (only a.site) ≡ times m c.roots + times m a.change.boxes =
      times-edited m a.site.content.name a.change.boxes c.roots a.site (s.once a.site.content.name) (site-box l.place c.roots a.site s.once a.is_site) in
      let h : times m d.roots ≤ times m c.roots + drawn_times m l.worker (slice_index c.next l.worker) a.change.drawn = added rules p c l d s a m in
      let r : times m (edited a.site.content.name a.change.boxes c.roots) ≡ times m d.roots = ap (λ (x : Config). times m x.roots) a.result in
      omega arith

  -- the label's box, where it stands inside another one
  same_site : (f h : Found) → Stands f c.roots → box_inside a.site.content.name f.goals ≡ Some h → h.content.name ≡ a.site.content.name → times m (only h) ≡ times m (only a.site)
  same_site f h x e n = ap (λ (k : Found). times m (only k)) (one_box c.roots s.once (record { around = f.around ++ f.content ∷ h.around; content = h.content; goals = h.goals }) a.site
      (in_deeper f.around f.content f.goals h.around h.content h.goals c.roots x (found_among a.site.content.name f.goals h e)) (steps.site_stands rules p c l d s a) n)

  pub tree_added : (f g : Found) → Stands f c.roots → Moved l.worker (slice_index c.next l.worker) a.site a.change f g → times m (only g) ≤ times m (only f) + drawn
  tree_added f g x (inside b j i k q r) = let e : times m (only f) ≡ times m (only g) = ap (λ (u : Found). times m (only u)) q ∙ sym (ap (λ (u : Found). times m (only u)) r) in omega arith
  tree_added f g x (at_site b q r) =
      let e : times m (only f) ≡ times m (only a.site) = ap (λ (u : Found). times m (only u)) q in
      let h : times m (only g) ≡ times_of m b.content + (times_inside m b.goals + 0) = ap (λ (u : Found). times m (only u)) r in
      let k : times m a.change.boxes ≡ times_of m b.content + (times_inside m b.goals + times m b.rest) = ap (times m) b.is_change in
      let y : times m a.change.boxes ≤ times m (only a.site) + drawn_times m l.worker (slice_index c.next l.worker) a.change.drawn = few in
      omega arith
  tree_added f g x (aside z) = on (none_or (box_inside a.site.content.name f.goals))
    where
      counts : times m (only g) ≡ times_of m f.content + (times_inside m (edited_inside a.site.content.name a.change.boxes f.goals) + 0)
      counts = λ i. times_of m (z.content i) + (times_inside m (z.goals i) + 0)

      on : (box_inside a.site.content.name f.goals ≡ None) ⊎ ((h : Found) × (box_inside a.site.content.name f.goals ≡ Some h)) → times m (only g) ≤ times m (only f) + drawn
      on (inl n) =
          let e : times m (only g) ≡ times_of m f.content + (times_inside m (edited_inside a.site.content.name a.change.boxes f.goals) + 0) = counts in
          let k : times_inside m (edited_inside a.site.content.name a.change.boxes f.goals) ≡ times_inside m f.goals = ap (times_inside m) (edited_inside-none a.site.content.name a.change.boxes f.goals n) in
          let y : times m (only f) ≡ times_of m f.content + (times_inside m f.goals + 0) = refl in
          omega arith
      on (inr (h, n)) =
          let u : times a.site.content.name (box f.content f.goals no_boxes) + times_path a.site.content.name f.around ≤ times a.site.content.name c.roots = in_counted a.site.content.name f.around f.content f.goals c.roots x in
          let o : times a.site.content.name c.roots ≤ 1 = s.once a.site.content.name in
          let v : times a.site.content.name (box f.content f.goals no_boxes) ≡ times_of a.site.content.name f.content + (times_inside a.site.content.name f.goals + 0) = refl in
          let k : times_inside m (edited_inside a.site.content.name a.change.boxes f.goals) + times m (only h) ≡ times_inside m f.goals + times m a.change.boxes =
          times-edited_inside m a.site.content.name a.change.boxes f.goals h (omega arith) n in
          let e : times m (only g) ≡ times_of m f.content + (times_inside m (edited_inside a.site.content.name a.change.boxes f.goals) + 0) = counts in
          let y : times m (only f) ≡ times_of m f.content + (times_inside m f.goals + 0) = refl in
          let q : times m (only h) ≡ times m (only a.site) = same_site f h x n (sym (inside-itself a.site.content.name f.goals h n)) in
          let t : times m a.change.boxes ≤ times m (only a.site) + drawn_times m l.worker (slice_index c.next l.worker) a.change.drawn = few in
          omega arith

-- many labels: a name that is old, and isn't in the tree, doesn't come
pub tree_kept : (rules : List Rule) (p : Program) (q : Query) (journal : List Label) (c : Config) (ls : List Label) (d : Config) → Replays rules p q journal c → Derives rules p c ls d
    → (n : Name) (f g : Found) → box_at n c.roots ≡ Some f → box_at n d.roots ≡ Some g → (m : Name) → IsOld c m → times m (only f) ≡ 0 → times m (only g) ≡ 0
tree_kept rules p q journal c [] d r w n f g e i m old none = ap (λ (k : Found). times m (only k)) (some_value (sym i ∙ ap (λ (k : Config). box_at n k.roots) (sym w) ∙ e)) ∙ none
tree_kept rules p q journal c (l ∷ ls) d r w n f g e i m old none =
    let gc : Good c = good_replay rules p q journal c r in
    let r1 : Replays rules p q (journal ++ l ∷ []) w.0 = replay_further rules p q journal c l w.0 r w.1 in
    let gm : Good w.0 = good_replay rules p q (journal ++ l ∷ []) w.0 r1 in
    let k : (k : Found) × (box_at n w.0.roots ≡ Some k) = between rules p c l w.0 d ls gc gm w.1 w.2 n f g e i in
    let more : times m (only k.0) ≤ times m (only f) + drawn_times m l.worker (slice_index c.next l.worker) w.1.change.drawn =
    tree_added rules p c l w.0 gc.stand w.1 m f k.0 (found_in n c.roots f e) (moved rules p c l w.0 gc gm w.1 n f k.0 e k.1) in
    let new : drawn_times m l.worker (slice_index c.next l.worker) w.1.change.drawn ≡ 0 = undrawn (zero_or (drawn_times m l.worker (slice_index c.next l.worker) w.1.change.drawn)) in
    tree_kept rules p q (journal ++ l ∷ []) w.0 ls d r1 w.2 n k.0 g k.1 i m
    (let y : slice_index c.next m.worker ≤ slice_index w.0.next m.worker = next_least rules p c l w.0 w.1 m.worker in let u : m.number < slice_index c.next m.worker = old in omega (arith, y, u)) (omega (arith, none, more, new))
  where
    undrawn : (drawn_times m l.worker (slice_index c.next l.worker) w.1.change.drawn ≡ 0) ⊎ (0 < drawn_times m l.worker (slice_index c.next l.worker) w.1.change.drawn) → drawn_times m l.worker (slice_index c.next l.worker) w.1.change.drawn ≡ 0
    undrawn (inl z) = z
    undrawn (inr h) = absurd (steps.not_old rules p c l w.0 (good_replay rules p q journal c r).stand w.1 m h old)

-- what stands in boxes stands in the tree of one of them
pub in_tree : (r : List Content) (k : Content) (hs : Goals) (bs : Boxes) → BoxIn r k hs bs → (b : Content) × (gs : Goals) × BoxIn [] b gs bs × BoxIn r k hs (box b gs no_boxes)
in_tree r k hs no_boxes x = absurd x
in_tree r k hs (box b gs bs) (inl x) = (b, gs, inl (refl, refl, refl), inl x)
in_tree r k hs (box b gs bs) (inr (inl x)) = (b, gs, inl (refl, refl, refl), inr (inl x))
in_tree r k hs (box b gs bs) (inr (inr x)) = let y : (b : Content) × (gs : Goals) × BoxIn [] b gs bs × BoxIn r k hs (box b gs no_boxes) = in_tree r k hs bs x in (y.0, y.1, inr (inr y.2), y.3)

-- a name is counted in the trees of two root boxes
pub in_two : (m : Name) (b : Content) (gs : Goals) (e : Content) (hs : Goals) (bs : Boxes) → BoxIn [] b gs bs → BoxIn [] e hs bs → (b.name ≡ e.name → ⊥) → times m (box b gs no_boxes) + times m (box e hs no_boxes) ≤ times m bs
in_two m b gs e hs no_boxes x y n = absurd x
in_two m b gs e hs (box k is bs) (inl x) (inl y) n = absurd (n (ap (λ (u : Content). u.name) (x.1 ∙ sym y.1)))
in_two m b gs e hs (box k is bs) (inl x) (inr (inl y)) n = absurd (nothing_first y.1)
  where
    nothing_first : [] ≡ k ∷ y.0 → ⊥
    nothing_first q = cc
in_two m b gs e hs (box k is bs) (inr (inl x)) y n = absurd (nothing_first x.1)
  where
    nothing_first : [] ≡ k ∷ x.0 → ⊥
    nothing_first q = cc
in_two m b gs e hs (box k is bs) (inl x) (inr (inr y)) n =
    let u : times m (box e hs no_boxes) + times_path m [] ≤ times m bs = in_counted m [] e hs bs y in
    let v : times m (box b gs no_boxes) ≡ times m (box k is no_boxes) = λ i. times m (box (x.1 i) (x.2 i) no_boxes) in
    let z : times m (box k is no_boxes) ≡ times_of m k + (times_inside m is + 0) = refl in
    omega arith
in_two m b gs e hs (box k is bs) (inr (inr x)) (inl y) n =
    let u : times m (box b gs no_boxes) + times_path m [] ≤ times m bs = in_counted m [] b gs bs x in
    let v : times m (box e hs no_boxes) ≡ times m (box k is no_boxes) = λ i. times m (box (y.1 i) (y.2 i) no_boxes) in
    let z : times m (box k is no_boxes) ≡ times_of m k + (times_inside m is + 0) = refl in
    omega arith
in_two m b gs e hs (box k is bs) (inr (inr x)) (inr (inl y)) n = absurd (nothing_first y.1)
  where
    nothing_first : [] ≡ k ∷ y.0 → ⊥
    nothing_first q = cc
in_two m b gs e hs (box k is bs) (inr (inr x)) (inr (inr y)) n = let u : times m (box b gs no_boxes) + times m (box e hs no_boxes) ≤ times m bs = in_two m b gs e hs bs x y n in omega arith
