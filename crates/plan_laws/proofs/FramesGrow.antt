-- A label takes no frame from a box that stays.
use Rattle.std.proofs.Common.{◌≡◌, ℕ, ◌+◌, List, length, Bool, true, false, Option, Some, None, sym, ◌∙◌, ap, subst, inl, inr}
use Rattle.std.specs.Prelude.{if◌then◌else◌, slice_index}
use Rattle.akl_terms.specs.declared.name.Name.{Name}
use Rattle.akl_terms.specs.declared.name.Place.{Place}
use Rattle.akl_terms.specs.declared.program.Program.{Program}
use Rattle.akl_terms.specs.Tree.{integer, port}
use Rattle.akl_terms.specs.Arithmetic.{value, truth}
use Rattle.akl_terms.specs.Names.{same_name}
use Rattle.akl_model.specs.declared.label.Rule.{Rule}
use Rattle.akl_model.specs.declared.label.Label.{Label}
use Rattle.akl_model.specs.Config.{IsIn, Atom, Content, Boxes, no_boxes, box, Goals, Config, an_atom, a_choice, with_content, without_goal, with_name, with_tail, with_port, Found}
use Rattle.akl_model.specs.Instances.{term_at, with_atoms, instances, drawn_by}
use Rattle.akl_model.specs.Rules.{Change, becomes, telling, kept_by, count_of, joining}
use Rattle.akl_model.specs.Derivations.{Applies}
use Rattle.akl_model.proofs.Options.{some_value}
use Rattle.akl_model.proofs.RuleCases.{Makes-case, PlainCase, tells, forks, evaluates, opens, sends, fails, cuts, promotes, collects, SplitCase}
use Rattle.akl_model.proofs.ScopesKept.{in_with_name, in_with_names}

abbrev first_content : Content → Boxes → Content
first_content d no_boxes = d
first_content d (box b gs bs) = b

module _ (p : Program) (w next : ℕ) (f : Found) where
  abbrev HasFrames : Content → Type 0
  HasFrames b = (n : Name) → IsIn n f.content.frames → IsIn n b.frames

  by : (b0 : Content) (gs0 : Goals) (n : ℕ) (c : Change) → Some (becomes b0 gs0 n) ≡ Some c → HasFrames b0 → (b : Content) (gs : Goals) (rest : Boxes) → c.boxes ≡ box b gs rest → HasFrames b
  by b0 gs0 n c e h b gs rest i = subst HasFrames (ap (first_content b0) (ap (λ (k : Change). k.boxes) (some_value e) ∙ i)) h

  same_frames : HasFrames f.content
  same_frames n h = h

  plain_frames : {place : Place} (c : Change) → PlainCase p w next f c place → (b : Content) (gs : Goals) (rest : Boxes) → c.boxes ≡ box b gs rest → HasFrames b
  plain_frames c (tells g l r i e) b gs rest j = by (telling l r f.content) (without_goal g f.goals) 0 c e same_frames b gs rest j
  plain_frames c (forks g d ts r k o i u l e) b gs rest j = by f.content (with_content g (a_choice o (instances p.templates.nodes w next ts k.clauses)) f.goals) (drawn_by k.clauses) c e same_frames b gs rest j
  plain_frames c (evaluates g test l r (value z) i u v e) b gs rest j = by (telling l (integer z) f.content) (without_goal g f.goals) 0 c e same_frames b gs rest j
  plain_frames c (evaluates g test l r (truth true) i u v e) b gs rest j = by f.content (without_goal g f.goals) 0 c e same_frames b gs rest j
  plain_frames c (evaluates g test l r (truth false) i u v e) b gs rest j = by f.content (with_content g (an_atom Atom.fail) f.goals) 0 c e same_frames b gs rest j
  plain_frames c (opens g l r i e) b gs rest j =
      let q : Name = record { worker = w; number = next } in
      by (record (telling l (port q) f.content) { ports = with_port (record { name = q; tail = r }) f.content.ports }) (without_goal g f.goals) 1 c e same_frames b gs rest j
  plain_frames c (sends g l r q k i u v o e) b gs rest j =
      let frame : Name = record { worker = w; number = next } in
      by (record (telling (term_at p.templates.nodes frame p.cell) l (telling k.tail (term_at p.templates.nodes frame (p.cell + 2)) f.content)) { frames = with_name frame f.content.frames; ports = with_tail k.name (term_at p.templates.nodes frame (p.cell + 1)) f.content.ports })
      (without_goal g f.goals) 1 c e (λ n h. in_with_name n frame f.content.frames (inr h)) b gs rest j
  plain_frames c (fails m x e) b gs rest j = let r : no_boxes ≡ box b gs rest = sym (ap (λ (k : Change). k.boxes) e) ∙ j in cc
  plain_frames c (cuts g m o bs i x e) b gs rest j = by f.content (with_content g (a_choice o (kept_by o m bs)) f.goals) 0 c e same_frames b gs rest j
  plain_frames c (collects g r bs a i x z e) b gs rest j = by (joining a f.content) (without_goal g f.goals) (count_of bs) c e (λ n h. in_with_names n a.frames f.content.frames (inr h)) b gs rest j
  plain_frames c (promotes g m o a i r x e) b gs rest j = on (same_name m a.name) r e
    where
      on : (v : Bool) → v ≡ true → (if v then Some (becomes (joining a f.content) (with_atoms w next a.body (without_goal g f.goals)) (length a.body)) else None) ≡ Some c → HasFrames b
      on false q d = cc
      on true q d = by (joining a f.content) (with_atoms w next a.body (without_goal g f.goals)) (length a.body) c d (λ n h. in_with_names n a.frames f.content.frames (inr h)) b gs rest j

  split_frames : {place : Place} {alternative : Option Name} (c : Change) → SplitCase p w next f c place alternative → (b : Content) (gs : Goals) (rest : Boxes) → c.boxes ≡ box b gs rest → HasFrames b
  split_frames c x b gs rest j = subst HasFrames (ap (first_content f.content) (ap (λ (k : Change). k.boxes) (some_value x.change) ∙ j)) same_frames

pub frames_grow : (rules : List Rule) (p : Program) (c : Config) (l : Label) (d : Config) (a : Applies rules p c l d) (b : Content) (gs : Goals) (rest : Boxes) → a.change.boxes ≡ box b gs rest
    → (n : Name) → IsIn n a.site.content.frames → IsIn n b.frames
frames_grow rules p c l d a b gs rest i = elim (Makes-case a.makes) [
  | inl x ↦ plain_frames p l.worker (slice_index c.next l.worker) a.site a.change x b gs rest i
  | inr x ↦ split_frames p l.worker (slice_index c.next l.worker) a.site a.change x b gs rest i
]
