-- A label that adds no equations binds nothing, and one whose box and the boxes around it are unchanged binds the same.
use Rattle.std.proofs.Common.{◌≡◌, ℕ, List, ◌++◌, Option, Some, None, sym, ◌∙◌, ap, subst, inl, inr}
use Rattle.std.specs.Prelude.{slice_get, slice_index}
use Rattle.akl_terms.specs.declared.name.Name.{Name}
use Rattle.akl_terms.specs.declared.name.Var.{Var}
use Rattle.akl_terms.specs.declared.name.Place.{Place}
use Rattle.akl_terms.specs.declared.program.Clause.{Clause}
use Rattle.akl_model.specs.Config.{Operator}
use Rattle.akl_terms.specs.declared.program.Definition.{Definition}
use Rattle.akl_terms.specs.declared.program.Program.{Program}
use Rattle.akl_terms.specs.declared.program.Query.{Query}
use Rattle.akl_terms.specs.Tree.{Tree}
use Rattle.akl_terms.specs.Equal.{Equations, IsConsistent}
use Rattle.constraint_laws.specs.Bound.{IsNewlyBound}
use Rattle.akl_model.specs.declared.item.Item.{Item}
use Rattle.akl_model.specs.declared.label.Rule.{Rule}
use Rattle.akl_model.specs.declared.label.Label.{Label}
use Rattle.akl_model.specs.Config.{IsIn, Atom, Content, Boxes, no_boxes, box, Goals, Config, Held, an_atom, a_choice, held_in, Found, equations_of, whole}
use Rattle.akl_model.specs.Instances.{with_atoms}
use Rattle.akl_model.specs.Rules.{Reading, Change, operator_of, fork_as, fork_by, fork, cut, ChoiceIn, choice_with, split_at, change_by}
use Rattle.akl_model.specs.Derivations.{Applies, Replays}
use Rattle.akl_model.specs.Changes.{Binds}
use Rattle.akl_model.specs.Wakes.{names_down_to}
use Rattle.akl_model.proofs.Options.{some_value}
use Rattle.akl_model.proofs.NamesKept.{Stand, replay-stands, derived-stands}
use Rattle.step_laws.specs.Stays.{GoesOn, Leaves, IsSameBox}
use Rattle.step_laws.proofs.Becomes.{Becomes}
use Rattle.step_laws.proofs.Steps.{Later, later, found, site_stands, made, site_now, site_there}
use Rattle.step_laws.proofs.Added.{added_at}
use Rattle.step_laws.proofs.Same.{same}
use Rattle.step_laws.proofs.Stays.{like_box, same_box}
use Rattle.plan_laws.specs.Local as local
use Rattle.plan_laws.specs.Local.{Delta, leaves, replaces, reduces, told_to, reduced}
use Rattle.plan_laws.specs.Right.{IsRightOn}
use Rattle.plan_laws.specs.BoundAgain.{AddsNone, BindsAlike}

-- the box, where it stays, has the content that it had
abbrev KeepsContent : Found → Change → Type 0
KeepsContent f ch = (b : Content) (gs : Goals) (rest : Boxes) → ch.boxes ≡ box b gs rest → b ≡ f.content

keeps : (f : Found) (hs : Goals) (more : Boxes) (k : ℕ) (ch : Change) → Some (record { boxes = box f.content hs more; drawn = k }) ≡ Some ch → KeepsContent f ch
keeps f hs more k ch e b gs rest q = let r : box f.content hs more ≡ box b gs rest = ap (λ (z : Change). z.boxes) (some_value e) ∙ q in cc

fork_as_keeps : (p : Program) (w next : ℕ) (g : Name) (ts : List Tree) (cs : List Clause) (f : Found) (ch : Change) (o : Option Operator) → fork_as p w next g ts cs f o ≡ Some ch → KeepsContent f ch
fork_as_keeps p w next g ts cs f ch None e = absurd cc
fork_as_keeps p w next g ts cs f ch (Some o) e = keeps f _ no_boxes _ ch e

fork_by_keeps : (p : Program) (w next : ℕ) (g : Name) (ts : List Tree) (r : Option Tree) (f : Found) (ch : Change) (o : Option Definition) → fork_by p w next g ts r f o ≡ Some ch → KeepsContent f ch
fork_by_keeps p w next g ts r f ch None e = absurd cc
fork_by_keeps p w next g ts r f ch (Some d) e = fork_as_keeps p w next g ts d.clauses f ch (operator_of d.op r) e

fork_keeps : (p : Program) (w next : ℕ) (g : Name) (f : Found) (ch : Change) (h : Option Held) → fork p w next g f h ≡ Some ch → KeepsContent f ch
fork_keeps p w next g f ch (Some (an_atom (Atom.call d ts r))) e = fork_by_keeps p w next g ts r f ch (slice_get p.definitions d) e
fork_keeps p w next g f ch _ e = absurd cc

cut_keeps : (g n : Name) (f : Found) (ch : Change) (h : Option Held) → cut g n f h ≡ Some ch → KeepsContent f ch
cut_keeps g n f ch (Some (a_choice o bs)) e = keeps f _ no_boxes _ ch e
cut_keeps g n f ch _ e = absurd cc

split_keeps : (w next : ℕ) (a : Name) (f : Found) (ch : Change) (o : Option ChoiceIn) → split_at w next a f o ≡ Some ch → KeepsContent f ch
split_keeps w next a f ch None e = absurd cc
split_keeps w next a f ch (Some k) e = keeps f _ _ _ ch e

goes_away : (f : Found) (ch : Change) → Some (record { boxes = no_boxes; drawn = 0 }) ≡ Some ch → KeepsContent f ch
goes_away f ch e b gs rest q = let r : no_boxes ≡ box b gs rest = ap (λ (z : Change). z.boxes) (some_value e) ∙ q in cc

keeps_content : (p : Program) (v : Reading) (w next : ℕ) (r : Rule) (place : Place) (alternative : Option Name) (f : Found) (ch : Change) → AddsNone r
    → change_by p v w next r place alternative f ≡ Some ch → KeepsContent f ch
keeps_content p v w next Rule.Fork (Place.Goal g) None f ch x e = fork_keeps p w next g f ch (held_in g f.goals) e
keeps_content p v w next Rule.Fork (Place.Goal g) (Some n) f ch x e = absurd cc
keeps_content p v w next Rule.Fork (Place.Box n) a f ch x e = absurd cc
keeps_content p v w next Rule.Fail (Place.Box n) None f ch x e = goes_away f ch e
keeps_content p v w next Rule.Fail (Place.Box n) (Some a) f ch x e = absurd cc
keeps_content p v w next Rule.Fail (Place.Goal g) a f ch x e = absurd cc
keeps_content p v w next Rule.Cut (Place.Goal g) (Some n) f ch x e = cut_keeps g n f ch (held_in g f.goals) e
keeps_content p v w next Rule.Cut (Place.Goal g) None f ch x e = absurd cc
keeps_content p v w next Rule.Cut (Place.Box n) a f ch x e = absurd cc
keeps_content p v w next Rule.Split (Place.Box n) (Some a) f ch x e = split_keeps w next a f ch (choice_with a f.goals) e
keeps_content p v w next Rule.Split (Place.Box n) None f ch x e = absurd cc
keeps_content p v w next Rule.Split (Place.Goal g) a f ch x e = absurd cc
keeps_content p v w next Rule.Tell place a f ch x e = absurd x
keeps_content p v w next Rule.Eval place a f ch x e = absurd x
keeps_content p v w next Rule.Open place a f ch x e = absurd x
keeps_content p v w next Rule.Send place a f ch x e = absurd x
keeps_content p v w next Rule.Promote place a f ch x e = absurd x
keeps_content p v w next Rule.Collect place a f ch x e = absurd x

pub binds_none : (rules : List Rule) (p : Program) (q : Query) (journal : List Label) (c : Config) (l : Label) (d : Config) → Replays rules p q journal c → (a : Applies rules p c l d) → AddsNone l.rule
    → (x : Var) → Binds c d a.site.content.name x → ⊥
binds_none rules p q journal c l d replays a none x b =
    let k : (k : Becomes l.worker (slice_index c.next l.worker) a.site a.change) × (b.adds.before ≡ a.site) × (b.adds.afterwards ≡ site_now k) =
    added_at rules p c l d (replay-stands rules p q journal c replays) a a.site.content.name b.adds in
    let same : k.0.content ≡ a.site.content =
    keeps_content p a.makes.reading l.worker (slice_index c.next l.worker) l.rule l.place l.alternative a.site a.change none a.makes.change k.0.content k.0.goals k.0.rest k.0.is_change in
    b.adds.more (ap (λ (f : Found). f.content.equations) k.2 ∙ ap (λ (z : Content). z.equations) same ∙ sym (ap (λ (f : Found). f.content.equations) k.1))

-- the same local change makes the same content of a box with the same one
made_content : (delta : Delta) (f g : Found) → f.content ≡ g.content → (b : Content) (gs : Goals) (rest : Boxes) → local.made delta f ≡ box b gs rest → (hs : Goals) × (more : Boxes) × (local.made delta g ≡ box b hs more)
made_content leaves f g s b gs rest e = absurd cc
made_content (replaces bs) f g s b gs rest e = (gs, rest, e)
made_content (reduces t i o n) f g s b gs rest e =
    let q : told_to t f.content ≡ b = cc in
    let now : Goals = with_atoms n.worker n.first n.atoms (reduced o i g.goals) in
    (now, no_boxes, λ j. box ((ap (told_to t) (sym s) ∙ q) j) now no_boxes)

-- two labels that make the same local change of boxes with the same contents, down to them, bind the same
module _ (rules : List Rule) (p : Program) (c d : Config) (l m : Label) (e f : Config) (s : Stand c) (t : Stand d) (a : Applies rules p c l e) (b : Applies rules p d m f)
    (delta : Delta) (one : a.change.boxes ≡ local.made delta a.site) (other : b.change.boxes ≡ local.made delta b.site) (same_site : IsSameBox a.site b.site) where
  abbrev Before : Type 0
  Before = Becomes l.worker (slice_index c.next l.worker) a.site a.change

  abbrev Now : Type 0
  Now = Becomes m.worker (slice_index d.next m.worker) b.site b.change

  -- the box stays there too, with the same content
  stays_now : (k : Before) → (j : Now) × (k.content ≡ j.content)
  stays_now k = on (made_content delta a.site b.site same_site.content k.content k.goals k.rest (sym one ∙ k.is_change))
    where
      on : (hs : Goals) × (more : Boxes) × (local.made delta b.site ≡ box k.content hs more) → (j : Now) × (k.content ≡ j.content)
      on (hs, more, q) = elim (made rules p d m f t b) [
        | inl w ↦ let r : no_boxes ≡ box k.content hs more = sym w.1 ∙ other ∙ q in absurd cc
        | inr w ↦ (w.0, (let r : box k.content hs more ≡ box w.0.content w.0.goals w.0.rest = sym q ∙ sym other ∙ w.0.is_change in cc))
      ]

  same_before : whole a.site ≡ whole b.site
  same_before = λ i. equations_of (same_site.around i) ++ (same_site.content i).equations

  same_now : (k : Before) (j : Now) → k.content ≡ j.content → whole (site_now k) ≡ whole (site_now j)
  same_now k j q = λ i. equations_of (same_site.around i) ++ (q i).equations

  pub binds_alike : (x : Var) → Binds c e a.site.content.name x → Binds d f b.site.content.name x
  binds_alike x y = on (added_at rules p c l e s a a.site.content.name y.adds)
    where
      on : (k : Before) × (y.adds.before ≡ a.site) × (y.adds.afterwards ≡ site_now k) → Binds d f b.site.content.name x
      on (k, q, r) = record {
        adds = record {
          before = b.site;
          afterwards = site_now j;
          was = found rules p d m f t b;
          is = site_there rules p d m f t b j;
          more = λ z. y.adds.more (ap (λ (g : Found). g.content.equations) r ∙ ap (λ (g : Content). g.equations) h ∙ z ∙ ap (λ (g : Content). g.equations) (sym same_site.content) ∙ sym (ap (λ (g : Found). g.content.equations) q));
        };
        consistent = subst IsConsistent (ap whole r ∙ same_now k j h) y.consistent;
        newly_bound = subst (λ (E : Equations). IsNewlyBound E (whole (site_now j)) x) (ap whole q ∙ same_before) (subst (λ (E : Equations). IsNewlyBound (whole y.adds.before) E x) (ap whole r ∙ same_now k j h) y.newly_bound);
      }
        where
          j : Now
          j = (stays_now k).0

          h : k.content ≡ j.content
          h = (stays_now k).1

pub binds_again : (rules : List Rule) (p : Program) (c : Config) (ls : List Label) (d : Config) (w : GoesOn rules p c ls d) (l : Label) (e : Config) (a : Applies rules p c l e) (r : IsRightOn a d)
    → ((m : Name) → IsIn m (names_down_to a.site) → Leaves w (Item.Store m)) → IsSameBox a.site r.applies.site × BindsAlike c e d r.result a.site.content.name
binds_again rules p c ls d w l e a r unchanged = (
  alike,
  record {
    later = λ x b. subst (λ (n : Name). Binds d r.result n x) (sym r.same_site) (binds_alike rules p c d l l e r.result s t a r.applies r.change r.before r.now alike x b);
    before = λ x b. binds_alike rules p d c l l r.result e t s r.applies a r.change r.now r.before (record { around = sym alike.around; content = sym alike.content }) x (subst (λ (n : Name). Binds d r.result n x) r.same_site b);
  },
)
  where
    s : Stand c
    s = replay-stands rules p w.query w.journal c w.replays

    t : Stand d
    t = derived-stands rules p c d ls s w.derives

    z : Later c d
    z = later rules p c d ls s w.derives

    alike : IsSameBox a.site r.applies.site
    alike = same_box c d s t z a.site r.applies.site (site_stands rules p c l e s a) (site_stands rules p d l r.result t r.applies)
        (like_box c d s t z a.site r.applies.site (site_stands rules p c l e s a) (site_stands rules p d l r.result t r.applies) r.same_site)
        (λ m i. same rules p c ls d w.derives (Item.Store m) (unchanged m i))
