-- What a worker has may go to another thread.
use denote.RattleType.{RattleType}
use denote.Param.Send.{IsSend, IsSync, sendable}
use Rattle.std.proofs.Crossing as owned
use Rattle.std.proofs.MapsCrossing as maps
use Rattle.frame_map.proofs.tree.Tree.TheLaws.TheKnot as frame_trees
use Rattle.frame_map.specs.contracts.root.Root as Root
use Rattle.frame_map.specs.contracts.map.FrameMap as FrameMap
use Rattle.local_store.specs.contracts.frame_bindings.FrameBindings as FrameBindings
use Rattle.local_store.specs.contracts.shared.Shared as Shared
use Rattle.local_store.specs.contracts.settled.Settled as Settled
use Rattle.local_store.specs.contracts.ports.Ports as Ports
use Rattle.local_store.specs.contracts.store.Store as Store
use Rattle.variable_marks.specs.contracts.frame.FrameMarks as FrameMarks
use Rattle.variable_marks.specs.contracts.marks.Marks as Marks
use Rattle.box_tree.specs.contracts.entries.GoalEntry as GoalEntry
use Rattle.box_tree.specs.contracts.entries.BoxEntry as BoxEntry
use Rattle.box_tree.specs.contracts.table.Table as Table
use Rattle.step_commit.specs.contracts.state.Core as Core
use Rattle.name_map.specs.contracts.page.Page as Page
use Rattle.name_map.specs.contracts.page.Chunk as Chunk
use Rattle.name_map.specs.contracts.spare.Spare as Spare
use Rattle.name_map.specs.contracts.numbers.Numbers as Numbers
use Rattle.name_map.specs.contracts.map.NameMap as NameMap
use Rattle.name_map.specs.contracts.boxed.Boxed as Boxed
use Rattle.name_map.specs.contracts.boxed_map.BoxedMap as BoxedMap
use Rattle.wake_lists.specs.contracts.token_set.TokenSet as TokenSet
use Rattle.wake_lists.specs.contracts.open.Open as Open
use Rattle.wake_lists.specs.contracts.waits.Waits as Waits
use Rattle.scheduler.specs.contracts.hints.Hints as Hints
use Rattle.scheduler.specs.contracts.splits.Splits as Splits
use Rattle.scheduler.specs.contracts.scheduler.Scheduler as Scheduler
use Rattle.task_pool.proofs.hand.Hand.TheSendSync as hands
use Rattle.turn_lock.proofs.lock.Pass.TheSendSync as passes
use Rattle.par_workers.specs.contracts.lying.Lying as Lying
use Rattle.par_workers.specs.contracts.tokens.Tokens as Tokens
use Rattle.par_workers.specs.contracts.planning.Planning as Planning
use Rattle.par_workers.specs.contracts.made.Made as Made
use Rattle.par_workers.specs.contracts.shared.SharedRun as SharedRun
use Rattle.par_workers.specs.contracts.signals.Signals as Signals
use Rattle.par_workers.specs.contracts.worker.Worker as Worker

-- each step rests on those before it, since a `search` that goes down through all of them runs out of steps
FrameBindings-send : IsSend FrameBindings.the_row
FrameBindings-send = search (owned.crosses, sendable) depth 60 fits 20000

FrameBindings-sync : IsSync FrameBindings.the_row
FrameBindings-sync = search (owned.crosses, sendable) depth 60 fits 20000

Shared-send : (V : RattleType) → IsSend V → IsSync V → IsSend (Shared.the_row V)
Shared-send V s y = search (owned.crosses, sendable) depth 60 fits 20000

Shared-sync : (V : RattleType) → IsSend V → IsSync V → IsSync (Shared.the_row V)
Shared-sync V s y = search (owned.crosses, sendable) depth 60 fits 20000

Root-send : (V : RattleType) → IsSend V → IsSync V → IsSend (Root.the_row V)
Root-send V s y = search (frame_trees.crosses_both, owned.crosses, sendable) depth 60 fits 20000

Root-sync : (V : RattleType) → IsSend V → IsSync V → IsSync (Root.the_row V)
Root-sync V s y = search (frame_trees.crosses_both, owned.crosses, sendable) depth 60 fits 20000

FrameMap-send : (V : RattleType) → IsSend V → IsSync V → IsSend (FrameMap.the_row V)
FrameMap-send V s y = let a = Root-send V s y in search (owned.crosses, sendable) depth 60 fits 20000

FrameMap-sync : (V : RattleType) → IsSend V → IsSync V → IsSync (FrameMap.the_row V)
FrameMap-sync V s y = let a = Root-sync V s y in search (owned.crosses, sendable) depth 60 fits 20000

Settled-send : IsSend Settled.the_row
Settled-send =
    let s = Shared-send FrameBindings.the_row FrameBindings-send FrameBindings-sync in
    let y = Shared-sync FrameBindings.the_row FrameBindings-send FrameBindings-sync in
    let a = FrameMap-send (Shared.the_row FrameBindings.the_row) s y in search (owned.crosses, sendable) depth 60 fits 20000

Settled-sync : IsSync Settled.the_row
Settled-sync =
    let s = Shared-send FrameBindings.the_row FrameBindings-send FrameBindings-sync in
    let y = Shared-sync FrameBindings.the_row FrameBindings-send FrameBindings-sync in
    let a = FrameMap-sync (Shared.the_row FrameBindings.the_row) s y in search (owned.crosses, sendable) depth 60 fits 20000

Ports-send : IsSend Ports.the_row
Ports-send = search (FrameMap-send, FrameMap-sync, owned.crosses, sendable) depth 60 fits 20000

Ports-sync : IsSync Ports.the_row
Ports-sync = search (FrameMap-send, FrameMap-sync, owned.crosses, sendable) depth 60 fits 20000

Store-send : IsSend Store.the_row
Store-send = let a = Settled-send in let b = Ports-send in search (owned.crosses, sendable) depth 60 fits 20000

Store-sync : IsSync Store.the_row
Store-sync = let a = Settled-sync in let b = Ports-sync in search (owned.crosses, sendable) depth 60 fits 20000

BoxEntry-send : IsSend BoxEntry.the_row
BoxEntry-send = let a = Store-send in let b = Store-sync in search (owned.crosses, maps.crosses, sendable) depth 60 fits 20000

GoalEntry-send : IsSend GoalEntry.the_row
GoalEntry-send = search (owned.crosses, maps.crosses, sendable) depth 60 fits 20000

Page-send : (V : RattleType) → IsSend V → IsSend (Page.the_row V)
Page-send V s = search (owned.crosses, sendable) depth 60 fits 20000

Chunk-send : (V : RattleType) → IsSend V → IsSend (Chunk.the_row V)
Chunk-send V s = let a = Page-send V s in search (owned.crosses, sendable) depth 60 fits 20000

Spare-send : (V : RattleType) → IsSend V → IsSend (Spare.the_row V)
Spare-send V s = search (owned.crosses, sendable) depth 60 fits 20000

Numbers-send : (V : RattleType) → IsSend V → IsSend (Numbers.the_row V)
Numbers-send V s = let a = Chunk-send V s in let b = Spare-send V s in search (owned.crosses, sendable) depth 60 fits 20000

NameMap-send : (V : RattleType) → IsSend V → IsSend (NameMap.the_row V)
NameMap-send V s = let a = Numbers-send V s in search (owned.crosses, sendable) depth 60 fits 20000

Boxed-send : (V : RattleType) → IsSend V → IsSend (Boxed.the_row V)
Boxed-send V s = search (owned.crosses, sendable) depth 60 fits 20000

BoxedMap-send : (V : RattleType) → IsSend V → IsSend (BoxedMap.the_row V)
BoxedMap-send V s = let a = NameMap-send (Boxed.the_row V) (Boxed-send V s) in search (owned.crosses, sendable) depth 60 fits 20000

FrameMarks-send : IsSend FrameMarks.the_row
FrameMarks-send = search (owned.crosses, sendable) depth 60 fits 20000

Marks-send : IsSend Marks.the_row
Marks-send = let a = FrameMarks-send in search (owned.crosses, maps.crosses, sendable) depth 60 fits 20000

Table-send : IsSend Table.the_row
Table-send = let a = BoxedMap-send BoxEntry.the_row BoxEntry-send in let b = BoxedMap-send GoalEntry.the_row GoalEntry-send in let c = Marks-send in search (owned.crosses, sendable) depth 60 fits 20000

Core-send : IsSend Core.the_row
Core-send = let a = Table-send in search (owned.crosses, sendable) depth 60 fits 20000

TokenSet-send : IsSend TokenSet.the_row
TokenSet-send = search (owned.crosses, maps.crosses, sendable) depth 60 fits 20000

Open-send : IsSend Open.the_row
Open-send = let a = TokenSet-send in search (NameMap-send, owned.crosses, maps.crosses, sendable) depth 60 fits 20000

Waits-send : IsSend Waits.the_row
Waits-send = search (NameMap-send, owned.crosses, maps.crosses, sendable) depth 60 fits 20000

Splits-send : IsSend Splits.the_row
Splits-send = search (owned.crosses, maps.crosses, sendable) depth 60 fits 20000

Hints-send : IsSend Hints.the_row
Hints-send = search (owned.crosses, maps.crosses, sendable) depth 60 fits 20000

Scheduler-send : IsSend Scheduler.the_row
Scheduler-send = let a = Core-send in let b = Open-send in let c = Waits-send in let d = Splits-send in let e = Hints-send in search (owned.crosses, maps.crosses, sendable) depth 60 fits 20000

Made-send : IsSend Made.the_row
Made-send = search (owned.crosses, sendable) depth 60 fits 20000

Lying-send : IsSend Lying.the_row
Lying-send = search (owned.crosses, sendable) depth 60 fits 20000

Tokens-send : IsSend Tokens.the_row
Tokens-send = let a = Lying-send in search (owned.crosses, maps.crosses, sendable) depth 60 fits 20000

Planning-send : IsSend Planning.the_row
Planning-send = search (owned.crosses, sendable) depth 60 fits 20000

pub SharedRun-send : IsSend SharedRun.the_row
SharedRun-send = let a = Scheduler-send in let b = Made-send in let c = Tokens-send in let d = Planning-send in search (owned.crosses, maps.crosses, sendable) depth 60 fits 20000

pub Signals-sync : IsSync Signals.the_row
Signals-sync = search (owned.crosses, sendable) depth 60 fits 20000

pub Worker-send : IsSend Worker.the_row
Worker-send = let a = SharedRun-send in search (passes.the_field_send, hands.the_send, owned.crosses, sendable) depth 60 fits 20000
