-- How an open place is looked at.
use Rattle.std.specs.Prelude.{ℕ, ◌-◌, ◌/◌, nat_lt, Bool, true, false, ◌||◌, ◌&&◌, if◌then◌else◌, length, Option, None, Some, option_map}
use Rattle.std.specs.List.{list_any}
use Rattle.akl_terms.specs.declared.name.Name.{Name}
use Rattle.akl_terms.specs.declared.name.Place.{Place}
use Rattle.akl_terms.specs.declared.program.Code.{Code}
use Rattle.akl_model.specs.declared.item.Item.{Item}
use Rattle.table_laws.specs.Walks.{alternatives_of}
use Rattle.box_tree.specs.declared.entries.HeldOp.{HeldOp}
use Rattle.box_tree.specs.declared.view.Sight.{Sight}
use Rattle.table_laws.specs.Stamped.{stamp_in}
use Rattle.box_tree.specs.Tables.{table_of}
use Rattle.box_tree.specs.Paths.{sight_in}
use Rattle.wake_lists.specs.declared.turn.Urgency.{Urgency}
use Rattle.wake_lists.specs.Open.{Opening, Openings, opening_at, is_busy}
use Rattle.wake_lists.specs.Waits.{same_place}
use Rattle.scheduler.specs.declared.attention.Attention.{Attention}
use Rattle.scheduler.specs.Schedulers.{SchedulerValue}

abbrev pub collects : HeldOp → Bool
collects (HeldOp.Collect result) = true
collects op = false

-- what is seen of a place is a choice that collects
abbrev pub is_collecting : Option (Name × Sight) → Bool
is_collecting (Some (name, Sight.Choice op)) = collects op
is_collecting seen = false

-- a place is open
abbrev pub is_open : Openings → Place → Bool
is_open os place = list_any (λ (e : ℕ × Opening). same_place place e.1.place) os

-- a box is open, or something that stands in it
abbrev pub has_open : Openings → Name → Bool
has_open os n = is_busy n os || is_open os (Place.Box n)

-- how urgent the place is that is open under a token
abbrev pub urgency_at : ℕ → Openings → Option Urgency
urgency_at token os = option_map (λ (o : Opening). o.turn.urgency) (opening_at token os)

abbrev pub is_late : Option Urgency → Bool
is_late (Some Urgency.Late) = true
is_late urgency = false

abbrev pub is_ordinary : Option Urgency → Bool
is_ordinary (Some Urgency.Ordinary) = true
is_ordinary urgency = false

-- of so many labels fewer than sixteen for each of so many open places were made since this one
abbrev pub are_few_since : ℕ → ℕ → Option ℕ → Bool
are_few_since labels places None = false
are_few_since labels places (Some label) = nat_lt ((labels - label) / 16) places

-- a goal was made a short time ago
abbrev pub is_young : SchedulerValue → Name → Bool
is_young s g = are_few_since (length s.core.journal) (length s.openings) (stamp_in (table_of s.core.table) (Item.Goal g))

-- this where something is open inside of a place, which is looked at whole else
abbrev pub if_busy : Bool → Attention → Attention
if_busy busy attention = if busy then attention else Attention.Whole

-- a box: an urgent one is tried whatever is open in it
abbrev pub box_attention : Option Urgency → Bool → Attention
box_attention (Some Urgency.Urgent) busy = Attention.Tried
box_attention (Some Urgency.Late) busy = if_busy busy Attention.PutOff
box_attention urgency busy = if_busy busy Attention.Tried

-- a call that is ordinary and young may wait
abbrev pub atom_attention : Option Urgency → Code → Bool → Attention
atom_attention urgency (Code.Call definition first count) young = if is_ordinary urgency && young then Attention.Early else Attention.Whole
atom_attention urgency code young = Attention.Whole

-- a choice: only one that is late, or collects, is put off
abbrev pub choice_attention : Option Urgency → HeldOp → Bool → Attention
choice_attention urgency op busy = if_busy ((is_late urgency || collects op) && busy) Attention.PutOff

-- a goal, by what is seen of it
abbrev pub goal_attention : Option Urgency → Option (Name × Sight) → Bool → Bool → Attention
goal_attention urgency (Some (home, Sight.Atom atom)) busy young = atom_attention urgency atom.code young
goal_attention urgency (Some (home, Sight.Choice op)) busy young = choice_attention urgency op busy
goal_attention urgency seen busy young = Attention.Whole

-- the place that is open under a token: what is open inside of it stands in the box, or is an alternative of the choice or stands in one
abbrev pub attention_of : SchedulerValue → ℕ → Place → Attention
attention_of s token (Place.Box n) = box_attention (urgency_at token s.openings) (is_busy n s.openings)
attention_of s token (Place.Goal g) =
    goal_attention (urgency_at token s.openings) (sight_in s.core.table (Place.Goal g)) (list_any (has_open s.openings) (alternatives_of ((table_of s.core.table).goal_of g))) (is_young s g)
