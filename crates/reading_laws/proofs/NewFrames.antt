-- The frames of the alternative that a call promotes are new, so the equations of a later configuration are outside of them.
use Rattle.std.proofs.Common.{◌≡◌, ℕ, ◌+◌, ◌≤◌, ◌<◌, List, [], ◌∷◌, ◌++◌, length, Bool, true, false, Option, Some, None, refl, sym, ◌∙◌, ap, subst, arith, inl, inr}
use Rattle.std.specs.Prelude.{if◌then◌else◌, slice_index, ⊤}
use Rattle.akl_terms.specs.declared.name.Name.{Name}
use Rattle.akl_terms.specs.declared.name.Place.{Place}
use Rattle.akl_terms.specs.declared.term.Node.{Node}
use Rattle.akl_terms.specs.declared.program.Clause.{Clause}
use Rattle.akl_terms.specs.declared.program.Program.{Program}
use Rattle.akl_terms.specs.Arithmetic.{value, truth}
use Rattle.akl_terms.specs.Names.{same_name}
use Rattle.akl_terms.specs.Touching.{IsLocal, IsOutside}
use Rattle.akl_terms.specs.Tree.{Tree, integer}
use Rattle.constraint_laws.specs.Growth.{TellsOver}
use Rattle.akl_model.specs.declared.label.Rule.{Rule}
use Rattle.akl_model.specs.declared.label.Label.{Label}
use Rattle.akl_model.specs.Config.{IsIn, Atom, Operator, Content, Boxes, no_boxes, box, Goals, no_goals, Config, Held, an_atom, a_choice, held_in, with_content, without_goal, Found, whole, box_at}
use Rattle.akl_model.specs.Instances.{instances}
use Rattle.akl_model.specs.Names.{times_in}
use Rattle.akl_model.specs.Rules.{Reading, answer, Change, becomes, telling, tell, eval, alternative_of}
use Rattle.akl_model.specs.Conditions.{Makes}
use Rattle.akl_model.specs.Stable.{Allows, only}
use Rattle.akl_model.proofs.Finds.{times, times_of}
use Rattle.akl_model.proofs.Options.{some_value}
use Rattle.akl_model.proofs.Scoped.{IsIn-either}
use Rattle.akl_model.proofs.ScopesAlong.{times_path, found_path, counted_in, local_in}
use Rattle.plan_laws.proofs.InScope.{Good}
use Rattle.plan_laws.specs.AtOnce.{inner, by, IsOfGuard, Works, rests, works, Sifts, ends, fails, stays, Ends, promotes, cuts}
use Rattle.reading_laws.specs.Unchanged.{path_to, frames_along}
use Rattle.reading_laws.proofs.Labels.{whole_over}
use Rattle.reading_laws.proofs.Path.{tells_wider}

-- frames that a worker drew from a number on
abbrev pub AreNew : ℕ → ℕ → List Name → Type 0
AreNew w n fs = (m : Name) → IsIn m fs → (m.worker ≡ w) × (n ≤ m.number)

abbrev pub AllNew : ℕ → ℕ → Boxes → Type 0
AllNew w n no_boxes = ⊤
AllNew w n (box b gs bs) = AreNew w n b.frames × AllNew w n bs

pub instances_new : (nodes : List Node) (w n k : ℕ) (arguments : List Tree) (cs : List Clause) → n ≤ k → AllNew w n (instances nodes w k arguments cs)
instances_new nodes w n k arguments [] h = tt
instances_new nodes w n k arguments (c ∷ cs) h = (
  λ m i. elim i [
    | inl e ↦ (ap (λ (v : Name). v.worker) e, let q : m.number ≡ k + 1 = ap (λ (v : Name). v.number) e in omega arith)
    | inr e ↦ absurd e
  ],
  instances_new nodes w n (k + (2 + length c.guard)) arguments cs (let j : n ≤ k = h in omega arith),
)

-- goals of a guard leave their box its frames

one_box : (b b1 : Content) (gs gs1 : Goals) → Some (becomes b gs 0) ≡ Some (becomes b1 gs1 0) → b1 ≡ b
one_box b b1 gs gs1 e = let q : box b gs no_boxes ≡ box b1 gs1 no_boxes = ap (λ (v : Change). v.boxes) (some_value e) in cc

tell_frames : (g : Name) (h : Option Held) (f : Found) (b1 : Content) (gs1 : Goals) → tell g f h ≡ Some (becomes b1 gs1 0) → b1.frames ≡ f.content.frames
tell_frames g (Some (an_atom (Atom.equation s t))) f b1 gs1 e = ap (λ (b : Content). b.frames) (one_box (telling s t f.content) b1 (without_goal g f.goals) gs1 e)
tell_frames g (Some (an_atom (Atom.arithmetic test l r))) f b1 gs1 e = cc
tell_frames g (Some (an_atom (Atom.open_port l r))) f b1 gs1 e = cc
tell_frames g (Some (an_atom (Atom.send l r))) f b1 gs1 e = cc
tell_frames g (Some (an_atom (Atom.call d ts r))) f b1 gs1 e = cc
tell_frames g (Some (an_atom Atom.fail)) f b1 gs1 e = cc
tell_frames g (Some (a_choice o bs)) f b1 gs1 e = cc
tell_frames g None f b1 gs1 e = cc

eval_frames : (v : Reading) (g : Name) (h : Option Held) (f : Found) (b1 : Content) (gs1 : Goals) → eval v g f h ≡ Some (becomes b1 gs1 0) → b1.frames ≡ f.content.frames
eval_frames (answer (value z)) g (Some (an_atom (Atom.arithmetic test l r))) f b1 gs1 e = ap (λ (b : Content). b.frames) (one_box (telling l (integer z) f.content) b1 (without_goal g f.goals) gs1 e)
eval_frames (answer (truth true)) g (Some (an_atom (Atom.arithmetic test l r))) f b1 gs1 e = ap (λ (b : Content). b.frames) (one_box f.content b1 (without_goal g f.goals) gs1 e)
eval_frames (answer (truth false)) g (Some (an_atom (Atom.arithmetic test l r))) f b1 gs1 e = ap (λ (b : Content). b.frames) (one_box f.content b1 (with_content g (an_atom Atom.fail) f.goals) gs1 e)
eval_frames _ g _ f b1 gs1 e = cc

pub made_frames : (p : Program) (w next : ℕ) (r : Rule) (g : Name) (f : Found) (b1 : Content) (gs1 : Goals) → IsOfGuard r → Makes (Allows p) p next (by w r (Place.Goal g) None) f (record { boxes = box b1 gs1 no_boxes; drawn = 0 })
    → b1.frames ≡ f.content.frames
made_frames p w next Rule.Tell g f b1 gs1 guard m = tell_frames g (held_in g f.goals) f b1 gs1 m.change
made_frames p w next Rule.Eval g f b1 gs1 guard m = eval_frames m.reading g (held_in g f.goals) f b1 gs1 m.change
made_frames p w next _ g f b1 gs1 guard m = absurd guard

works_frames : (p : Program) (w next : ℕ) (f : Found) (b : Content) (gs : Goals) (ls : List Label) (b2 : Content) (gs2 : Goals) → Works p w next f b gs ls b2 gs2 → b2.frames ≡ b.frames
works_frames p w next f _ _ _ _ _ (rests b gs) = refl
works_frames p w next f _ _ _ _ _ (works r i h b gs b1 gs1 ls b2 gs2 guard held makes name y) = works_frames p w next f b1 gs1 ls b2 gs2 y ∙ made_frames p w next r i (inner f b gs) b1 gs1 guard makes

sifts_new : (p : Program) (w next n : ℕ) (f : Found) (bs : Boxes) (ls : List Label) (cs : Boxes) → Sifts p w next f bs ls cs → AllNew w n bs → AllNew w n cs
sifts_new p w next n f _ _ _ ends x = tt
sifts_new p w next n f _ _ _ (fails b gs b2 gs2 ks bs ls cs work why y) x = sifts_new p w next n f bs ls cs y x.1
sifts_new p w next n f _ _ _ (stays b gs b2 gs2 ks bs ls cs work y) x = (subst (AreNew w n) (sym (works_frames p w next f b gs ks b2 gs2 work)) x.0, sifts_new p w next n f bs ls cs y x.1)

one_new : (w k : ℕ) (n : Name) (f : Found) (bs : Boxes) (a : Content) (gs : Goals) → AllNew w k bs → alternative_of f n bs ≡ Some (inner f a gs) → AreNew w k a.frames
one_new w k n f no_boxes a gs x e = cc
one_new w k n f (box b hs bs) a gs x e = on (same_name n b.name) e (λ i. one_new w k n f bs a gs x.1 i)
  where
    on : (t : Bool) → (if t then Some (inner f b hs) else alternative_of f n bs) ≡ Some (inner f a gs) → (alternative_of f n bs ≡ Some (inner f a gs) → AreNew w k a.frames) → AreNew w k a.frames
    on true i g = subst (λ (m : Found). AreNew w k m.content.frames) (some_value i) x.0
    on false i g = g i

pub last_new : (nodes : List Node) (p : Program) (w next n k : ℕ) (g : Name) (f : Found) (arguments : List Tree) (clauses : List Clause) (ls : List Label) (left : Boxes) → n ≤ k → Sifts p w next f (instances nodes w k arguments clauses) ls left
    → (o : Operator) (a : Content) (es : List Label) → Ends w g f o a left es → AreNew w n a.frames
last_new nodes p w next n k g f arguments clauses ls left h sifts o a es e = on left es (sifts_new p w next n f (instances nodes w k arguments clauses) ls left sifts (instances_new nodes w n k arguments clauses h)) e
  where
    on : (bs : Boxes) (es : List Label) → AllNew w n bs → Ends w g f o a bs es → AreNew w n a.frames
    on _ _ x (promotes guard) = x.0
    on _ _ x (cuts bs i q m quiet) = one_new w n a.name f bs a no_goals x i

-- frames along a path are counted
along_counted : (m : Name) (bs : List Content) → IsIn m (frames_along bs) → 0 < times_path m bs
along_counted m [] i = absurd i
along_counted m (b ∷ bs) i = elim (IsIn-either m b.frames (frames_along bs) i) [
  | inl j ↦ let c : 0 < times_in m b.frames = counted_in m b.frames j in omega arith
  | inr j ↦ let c : 0 < times_path m bs = along_counted m bs j in omega arith
]

pub outside_later : (d : Config) (v : Good d) (n : Name) (k : Found) → box_at n d.roots ≡ Some k → (w : ℕ) (fs : List Name) → AreNew w (slice_index d.next w) fs → TellsOver (IsOutside fs) (whole k)
outside_later d v n k e w fs new = tells_wider (IsLocal (frames_along (path_to k))) (IsOutside fs) (λ x l m. apart x.frame (local_in (frames_along (path_to k)) x l) (local_in fs x m)) (whole k) (whole_over d v n k e)
  where
    apart : (m : Name) → IsIn m (frames_along (path_to k)) → IsIn m fs → ⊥
    apart m i j =
        let c : 0 < times_path m (path_to k) = along_counted m (path_to k) i in
        let s : times_path m (k.around ++ k.content ∷ []) ≡ times_path m k.around + times_of m k.content = split m k.around in
        let f : times m (only k) + times_path m k.around ≤ times m d.roots = found_path m n d.roots k e in
        let b : m.number < slice_index d.next m.worker = v.stand.below m (omega arith) in
        let q : (m.worker ≡ w) × (slice_index d.next w ≤ m.number) = new m j in
        let r : slice_index d.next m.worker ≡ slice_index d.next w = ap (slice_index d.next) q.0 in
        let t : slice_index d.next w ≤ m.number = q.1 in
        absurd (omega arith)
      where
        split : (m : Name) (bs : List Content) → times_path m (bs ++ k.content ∷ []) ≡ times_path m bs + times_of m k.content
        split m [] = omega arith
        split m (b ∷ bs) = let i : times_path m (bs ++ k.content ∷ []) ≡ times_path m bs + times_of m k.content = split m bs in omega arith
