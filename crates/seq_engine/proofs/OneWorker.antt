-- All labels of a right plan are by one worker.
use Rattle.std.proofs.Common.{ℕ, ◌+◌, List, [], ◌∷◌, ◌++◌, None, refl, sym, subst}
use Rattle.akl_terms.specs.declared.name.Name.{Name}
use Rattle.akl_terms.specs.declared.name.Place.{Place}
use Rattle.akl_terms.specs.declared.program.Program.{Program}
use Rattle.akl_model.specs.declared.label.Rule.{Rule}
use Rattle.akl_model.specs.declared.label.Label.{Label}
use Rattle.akl_model.specs.Config.{Atom, Operator, Content, Boxes, Goals, Found}
use Rattle.plan_laws.specs.AtOnce.{by, Works, rests, works, Sifts, ends, fails, stays, Ends, promotes, cuts, Tells, finishes, leaves, tells, holds}
use Rattle.box_tree.specs.Plans.{PlanValue, IsRight, of_label, of_call}
use Rattle.step_commit.specs.Receipts.{AreBy}

pub by-append : (w : ℕ) (xs ys : List Label) → AreBy w xs → AreBy w ys → AreBy w (xs ++ ys)
by-append w [] ys first rest = rest
by-append w (x ∷ xs) ys first rest = (first.0, by-append w xs ys first.1 rest)

works_by : (p : Program) (w next : ℕ) (f : Found) (b : Content) (gs : Goals) (ls : List Label) (d : Content) (hs : Goals) → Works p w next f b gs ls d hs → AreBy w ls
works_by p w next f _ _ _ _ _ (rests b gs) = tt
works_by p w next f _ _ _ _ _ (works r g h b gs c is ls d hs guard held makes same y) = (refl, works_by p w next f c is ls d hs y)

sifts_by : (p : Program) (w next : ℕ) (f : Found) (bs : Boxes) (ls : List Label) (cs : Boxes) → Sifts p w next f bs ls cs → AreBy w ls
sifts_by p w next f _ _ _ ends = tt
sifts_by p w next f _ _ _ (fails b gs d hs ks bs ls cs work why y) =
    by-append w ks (by w Rule.Fail (Place.Box d.name) None ∷ ls) (works_by p w next f b gs ks d hs work) (refl, sifts_by p w next f bs ls cs y)
sifts_by p w next f _ _ _ (stays b gs d hs ks bs ls cs work y) = by-append w ks ls (works_by p w next f b gs ks d hs work) (sifts_by p w next f bs ls cs y)

ends_by : (w : ℕ) (g : Name) (f : Found) (o : Operator) (a : Content) (bs : Boxes) (ls : List Label) → Ends w g f o a bs ls → AreBy w ls
ends_by w g f o a _ _ (promotes guard) = (refl, tt)
ends_by w g f o a _ _ (cuts bs alternative kept less quiet) = (refl, (refl, tt))

tells_by : (p : Program) (w next : ℕ) (around : List Content) (b : Content) (n : ℕ) (body : List Atom) (ls : List Label) (b2 : Content) (left : List (Name × Atom)) → Tells p w next around b n body ls b2 left → AreBy w ls
tells_by p w next around _ _ _ _ _ _ (finishes b n) = tt
tells_by p w next around _ _ _ _ _ _ (leaves b n a rest ls b2 left y) = tells_by p w next around b (n + 1) rest ls b2 left y
tells_by p w next around _ _ _ _ _ _ (tells r b n a s t rest ls b2 left guard makes y) = (refl, tells_by p w next around _ (n + 1) rest ls b2 left y)
tells_by p w next around _ _ _ _ _ _ (holds r b n a rest ls b2 left guard makes y) = (refl, tells_by p w next around b (n + 1) rest ls b2 left y)

pub labels_by : (v : PlanValue) → IsRight v → AreBy v.label.worker (v.label ∷ v.more)
labels_by v (of_label none behind right) = (refl, subst (λ (ls : List Label). AreBy v.label.worker ls) (sym none) tt)
labels_by v (of_call r) =
    let w = v.label.worker in
    let x = r.calls in
    subst (λ (ls : List Label). AreBy w ls) (sym r.labels) (
      refl,
      by-append w (x.sift_labels ++ x.end_labels) x.body_labels
          (by-append w x.sift_labels x.end_labels (sifts_by v.table.program w _ r.site _ x.sift_labels x.left x.sifts) (ends_by w r.goal r.site x.op x.last x.left x.end_labels x.ends))
          (tells_by v.table.program w _ r.site.around _ _ x.last.body x.body_labels x.after x.goals_left x.body),
    )
