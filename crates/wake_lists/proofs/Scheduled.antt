-- That room is kept for each open place that isn't urgent, when a place comes, goes or gets another turn.
use Rattle.std.proofs.Common.{◌≡◌, ℕ, ◌+◌, ◌≤◌, Bool, true, false, [], ◌∷◌, Option, Some, None, sym, ap, ◌∙◌, subst, arith}
use Rattle.std.specs.Prelude.{cond}
use Rattle.std.specs.Map.{lookup}
use Rattle.wake_lists.specs.declared.turn.Urgency.{Urgency}
use Rattle.wake_lists.specs.declared.turn.Turn.{Turn}
use Rattle.wake_lists.specs.declared.turn.Opened.{Opened}
use Rattle.wake_lists.specs.Queue.{Places}
use Rattle.wake_lists.specs.Slots.{tally, tally_at, IsPut, IsTakenOut}
use Rattle.wake_lists.specs.Lines.{LineEntries, LinesValue, joined, entered, needs_room, room_of, IsThinnedAt, AreLined, AreScheduled}
use Rattle.wake_lists.proofs.Keys.{timed}
use Rattle.wake_lists.proofs.Leading.{none_some}
use Rattle.wake_lists.proofs.LinesKept.{lined_fewer, lined_back, lined_more, lined_moved}
use lib.Dec.{eqb}

-- an open place needs room
abbrev waits_apart : Opened → Bool
waits_apart o = needs_room o.turn.urgency

there : (test : Opened → Bool) (os : Places) (t : ℕ) (o : Opened) → lookup (eqb t) os ≡ Some o → tally_at test (Some o) ≤ tally test os
there test [] t o e = none_some o e
there test (q ∷ qs) t o e = on (eqb t q.0) e (there test qs t o)
  where
    on : (b : Bool) → cond b (Some q.1) (lookup (eqb t) qs) ≡ Some o → (lookup (eqb t) qs ≡ Some o → tally_at test (Some o) ≤ tally test qs) → tally_at test (Some o) ≤ tally test (q ∷ qs)
    on true f rest = let same : tally_at test (Some q.1) ≡ tally_at test (Some o) = ap (tally_at test) f in omega arith
    on false f rest = let more : tally_at test (Some o) ≤ tally test qs = rest f in omega arith

same_sum : (a b r : ℕ) → a + r ≡ b + r → a ≡ b
same_sum a b r e = omega arith

moved_sum : (x w v old new was now : ℕ) → x + was ≡ w → w ≡ v + now → v ≡ old → new + was ≡ old + now → x ≡ new
moved_sum x w v old new was now e f g h = omega arith

module _ (os : Places) (v : LinesValue) (a : AreScheduled os v) where
  pub room_there : (t : ℕ) (o : Opened) → lookup (eqb t) os ≡ Some o → room_of o.turn.urgency ≤ v.reserved
  room_there t o e = subst (λ (n : ℕ). room_of o.turn.urgency ≤ n) (sym a.reserved) (there waits_apart os t o e)

  -- a place goes
  pub scheduled_fewer : (t : ℕ) (o : Opened) → lookup (eqb t) os ≡ Some o → (os2 : Places) → IsTakenOut os os2 t → (x : LinesValue) → IsThinnedAt os2 o.turn.urgency v.entries x.entries → x.reserved + room_of o.turn.urgency ≡ v.reserved
      → AreScheduled os2 x
  scheduled_fewer t o is os2 out x thin room = record {
    lined = lined_fewer os v.entries a.lined t o is os2 out.finds x.entries thin;
    reserved = same_sum x.reserved (tally waits_apart os2) (room_of o.turn.urgency)
        (room ∙ a.reserved ∙ sym (ap (λ (w : Option Opened). tally waits_apart os2 + tally_at waits_apart w) (sym is) ∙ out.tallied waits_apart));
  }

  -- a token comes into a line
  module _ (u : Urgency) (t : ℕ) (w : LinesValue) (came : w ≡ entered u t v) where
    now_room : w.reserved ≡ v.reserved + room_of u
    now_room = ap (λ (l : LinesValue). l.reserved) came

    -- and leaves it, since no place has it
    pub scheduled_back : (os2 : Places) → os2 ≡ os → (x : LinesValue) → IsThinnedAt os2 u w.entries x.entries → x.reserved + room_of u ≡ w.reserved → AreScheduled os2 x
    scheduled_back os2 same x thin room = subst (λ (qs : Places). AreScheduled qs x) (sym same) (record {
      lined = lined_back os v.entries a.lined u t x.entries (subst (λ (l : LinesValue). IsThinnedAt os u l.entries x.entries) came (subst (λ (qs : Places). IsThinnedAt qs u w.entries x.entries) same thin));
      reserved = same_sum x.reserved v.reserved (room_of u) (room ∙ now_room) ∙ a.reserved;
    })

    -- a place has the turn for which it came
    module _ (o : Opened) (turn : o.turn ≡ timed u v.entries.next) (os2 : Places) (put : IsPut os os2 t o) where
      now_needs : tally_at waits_apart (Some o) ≡ room_of u
      now_needs = ap (λ (p : Turn). room_of p.urgency) turn

      -- one that had none
      pub scheduled_more : lookup (eqb t) os ≡ None → AreScheduled os2 w
      scheduled_more free = record {
        lined = subst (λ (l : LinesValue). AreLined os2 l.entries) (sym came) (lined_more os v.entries a.lined u t o turn os2 put.finds free);
        reserved =
            let more : tally waits_apart os2 + 0 ≡ tally waits_apart os + tally_at waits_apart (Some o) = ap (λ (p : Option Opened). tally waits_apart os2 + tally_at waits_apart p) (sym free) ∙ put.tallied waits_apart in
            moved_sum w.reserved w.reserved v.reserved (tally waits_apart os) (tally waits_apart os2) 0 (room_of u) (omega arith) now_room a.reserved (more ∙ ap (λ (n : ℕ). tally waits_apart os + n) now_needs);
      }

      -- one that had another
      pub scheduled_moved : (p : Opened) → lookup (eqb t) os ≡ Some p → (x : LinesValue) → IsThinnedAt os2 p.turn.urgency w.entries x.entries → x.reserved + room_of p.turn.urgency ≡ w.reserved → AreScheduled os2 x
      scheduled_moved p is x thin room = record {
        lined = lined_moved os v.entries a.lined u t o turn os2 put.finds p is x.entries (subst (λ (l : LinesValue). IsThinnedAt os2 p.turn.urgency l.entries x.entries) came thin);
        reserved = moved_sum x.reserved w.reserved v.reserved (tally waits_apart os) (tally waits_apart os2) (room_of p.turn.urgency) (room_of u) room now_room a.reserved
            (ap (λ (q : Option Opened). tally waits_apart os2 + tally_at waits_apart q) (sym is) ∙ put.tallied waits_apart ∙ ap (λ (n : ℕ). tally waits_apart os + n) now_needs);
      }

  -- a place that had room among the urgent ones becomes urgent
  pub scheduled_urgent : (t : ℕ) (o : Opened) → o.turn ≡ timed Urgency.Urgent v.entries.next → (os2 : Places) → IsPut os os2 t o → (p : Opened) → lookup (eqb t) os ≡ Some p → needs_room p.turn.urgency ≡ true
      → (w x : LinesValue) → w.entries ≡ joined Urgency.Urgent t v.entries → w.reserved + 1 ≡ v.reserved → IsThinnedAt os2 p.turn.urgency w.entries x.entries → x.reserved ≡ w.reserved → AreScheduled os2 x
  scheduled_urgent t o turn os2 put p is calm w x came less thin room = record {
    lined = lined_moved os v.entries a.lined Urgency.Urgent t o turn os2 put.finds p is x.entries (subst (λ (l : LineEntries). IsThinnedAt os2 p.turn.urgency l x.entries) came thin);
    reserved =
        let was : tally waits_apart os2 + tally_at waits_apart (Some p) ≡ tally waits_apart os + tally_at waits_apart (Some o) =
        ap (λ (q : Option Opened). tally waits_apart os2 + tally_at waits_apart q) (sym is) ∙ put.tallied waits_apart in
        let none : tally_at waits_apart (Some o) ≡ 0 = ap (λ (r : Turn). room_of r.urgency) turn in
        let one : tally_at waits_apart (Some p) ≡ 1 = ap (λ (b : Bool). cond b 1 0) calm in
        let all : v.reserved ≡ tally waits_apart os = a.reserved in
        fewer x.reserved w.reserved v.reserved (tally waits_apart os) (tally waits_apart os2) (tally_at waits_apart (Some p)) (tally_at waits_apart (Some o)) was none one all less room;
  }
    where
      fewer : (x w v old new was now : ℕ) → new + was ≡ old + now → now ≡ 0 → was ≡ 1 → v ≡ old → w + 1 ≡ v → x ≡ w → x ≡ new
      fewer x w v old new was now e f g h i k = omega arith
