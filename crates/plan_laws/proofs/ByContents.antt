-- A label is right by contents.
use Rattle.std.proofs.Common.{◌≡◌, ℕ, ◌+◌, ◌<◌, ◌^◌, List, Some, refl, sym, subst, ◌⊎◌, inl, inr, arith}
use Rattle.std.specs.Prelude.{slice_index}
use Rattle.akl_terms.specs.declared.program.Program.{Program}
use Rattle.akl_model.specs.declared.item.Item.{Item}
use Rattle.akl_model.specs.declared.label.Rule.{Rule}
use Rattle.akl_model.specs.declared.label.Label.{Label}
use Rattle.akl_model.specs.Config.{Config, Found}
use Rattle.akl_model.specs.Rules.{change_by}
use Rattle.akl_model.specs.Derivations.{after, Applies}
use Rattle.akl_model.specs.Names.{HasDistinctNames}
use Rattle.akl_model.proofs.NamesKept.{Stand, replay-stands, derived-stands}
use Rattle.akl_model.proofs.NextNumbers.{next_own}
use Rattle.step_laws.specs.Stays.{GoesOn, Leaves}
use Rattle.step_laws.proofs.Same.{IsSame, same}
use Rattle.step_laws.proofs.Steps.{IsNew, WasThere, Later, later}
use Rattle.plan_laws.specs.Right.{Reads, NoneBy, IsRightOn}
use Rattle.plan_laws.proofs.Right.{again, next_same, reads_map}
use Rattle.plan_laws.proofs.Between.{stand_of, distinct_of}
use Rattle.plan_laws.specs.Wherever.{IsNewBox, WasBox, Follows, IsAsIn, Meets, IsRightWherever}

pub later_of : (c d : Config) → Follows c d → Later c d
later_of c d h = record { next = h.next; each = λ f x. on f (h.each f x) }
  where
    on : (f : Found) → IsNewBox c f ⊎ WasBox c f → IsNew c f ⊎ WasThere c f
    on f (inl n) = inl (record { name = n.name; goals = n.goals })
    on f (inr w) = inr (record { before = w.before; stood = w.stood; like = w.like; goals = w.goals; solved = w.solved; grows = w.grows })

pub follows_of : (c d : Config) → Stand d → Later c d → Follows c d
follows_of c d s h = record { distinct = distinct_of d s; next = h.next; each = λ f x. on f (h.each f x) }
  where
    on : (f : Found) → IsNew c f ⊎ WasThere c f → IsNewBox c f ⊎ WasBox c f
    on f (inl n) = inl (record { name = n.name; goals = n.goals })
    on f (inr w) = inr (record { before = w.before; stood = w.stood; like = w.like; goals = w.goals; solved = w.solved; grows = w.grows })

pub as_same : (c d : Config) (i : Item) → IsAsIn c d i → IsSame c d i
as_same c d Item.Roots x = x
as_same c d (Item.Store n) x = x
as_same c d (Item.Goals n) x = x
as_same c d (Item.Goal g) x = x
as_same c d (Item.Binding v) x = tt

pub same_as : (c d : Config) (i : Item) → IsSame c d i → IsAsIn c d i
same_as c d Item.Roots x = x
same_as c d (Item.Store n) x = x
same_as c d (Item.Goals n) x = x
same_as c d (Item.Goal g) x = x
same_as c d (Item.Binding v) x = tt

pub right_wherever : (rules : List Rule) (p : Program) (c : Config) (l : Label) (e : Config) (a : Applies rules p c l e) → HasDistinctNames c → IsRightWherever a
right_wherever rules p c l e a h d m =
    let next : slice_index d.next l.worker ≡ slice_index c.next l.worker = m.next in
    let x : _ = again p c d (stand_of c h) (stand_of d m.follows.distinct) (later_of c d m.follows) a.makes.reading l.worker (slice_index c.next l.worker) l.rule l.place l.alternative a.site a.change a.is_site a.makes.allowed a.makes.change
    (reads_map (IsAsIn c d) (IsSame c d) (as_same c d) l.rule l.place l.alternative a.site m.reads) in
    record {
      result = after d l x.0 x.3.change;
      applies = record {
        in_force = a.in_force;
        site = x.0;
        is_site = x.1;
        change = x.3.change;
        makes = record {
          reading = x.3.reading;
          change = subst (λ (n : ℕ). change_by p x.3.reading l.worker n l.rule l.place l.alternative x.0 ≡ Some x.3.change) (sym next) x.3.makes;
          allowed = x.3.allowed;
          few_names = subst (λ (n : ℕ). n < 2 ^ 32) x.3.drawn a.makes.few_names;
        };
        result = refl;
      };
      change = x.3.delta;
      before = x.3.before;
      now = x.3.now;
      drawn = x.3.drawn;
      same_site = x.2.name;
      same_around = x.2.around;
    }

pub derived_follows : (rules : List Rule) (p : Program) (c : Config) (ls : List Label) (d : Config) → GoesOn rules p c ls d → HasDistinctNames c × Follows c d
derived_follows rules p c ls d w =
    let s : Stand c = replay-stands rules p w.query w.journal c w.replays in
    (distinct_of c s, follows_of c d (derived-stands rules p c d ls s w.derives) (later rules p c d ls s w.derives))

pub as_read : (rules : List Rule) (p : Program) (c : Config) (ls : List Label) (d : Config) (w : GoesOn rules p c ls d) (l : Label) (e : Config) (a : Applies rules p c l e)
    → NoneBy l ls → Reads (Leaves w) l.rule l.place l.alternative a.site → Meets a d
as_read rules p c ls d w l e a none reads = record {
  follows = (derived_follows rules p c ls d w).1;
  next = next_same rules p c l ls d (replay-stands rules p w.query w.journal c w.replays) w.derives none;
  reads = reads_map (Leaves w) (IsAsIn c d) (λ i u. same_as c d i (same rules p c ls d w.derives i u)) l.rule l.place l.alternative a.site reads;
}

pub next_after : (rules : List Rule) (p : Program) (c : Config) (l : Label) (e : Config) (a : Applies rules p c l e) (d : Config) → slice_index d.next l.worker ≡ slice_index c.next l.worker
    → (r : IsRightOn a d) → slice_index r.result.next l.worker ≡ slice_index e.next l.worker
next_after rules p c l e a d h r =
    let x : slice_index r.result.next l.worker ≡ slice_index d.next l.worker + r.applies.change.drawn = next_own rules p d l r.result r.applies in
    let y : slice_index e.next l.worker ≡ slice_index c.next l.worker + a.change.drawn = next_own rules p c l e a in
    let z : a.change.drawn ≡ r.applies.change.drawn = r.drawn in
    omega arith
