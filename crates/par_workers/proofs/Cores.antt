-- The core to which labels led, and what was found of it before.
use Rattle.std.proofs.Common.{◌≡◌, ◌≢◌, ℕ, suc, ◌+◌, ◌<◌, ◌≤◌, List, [], ◌∷◌, ◌++◌, All, Some, inl, inr, length, drop, ◌-◌, sym, refl, ap, ◌∙◌, subst, arith, append-nil, length-append}
use Rattle.std.proofs.Math.Seq.{drop-append_seam}
use Rattle.std.proofs.lemmas.List.Elements.{All-nil, All-cons, All-head, All-tail}
use Rattle.akl_terms.specs.declared.name.Name.{Name}
use Rattle.akl_model.specs.declared.label.Label.{Label}
use Rattle.akl_model.specs.declared.label.Receipt.{Receipt}
use Rattle.plan_laws.specs.Right.{NoneBy}
use Rattle.table_laws.specs.Rows.{BoxRow, store_in}
use Rattle.table_laws.specs.Kept.{HadStore, SharesStores}
use Rattle.box_tree.specs.Tables.{TableValue, table_of}
use Rattle.box_tree.proofs.LeadsBy.{stores_kept}
use Rattle.box_tree.specs.Plans.{PlanValue, IsRight}
use Rattle.idle_places.specs.Idling.{IdleValue}
use Rattle.step_commit.specs.Cores.{CoreValue, IsCore, KeepsFixed, MayCommit, Commits, solved_in}
use Rattle.step_commit.specs.Receipts.{receipts_from, AreBy}
use Rattle.scheduler.specs.Settled.{MaySettle}
use Rattle.scheduler.proofs.Fronts as fronts
use Rattle.scheduler.proofs.Fronts.{IsFront}
use Rattle.place_steps.specs.declared.next.Next.{Next}
use Rattle.seq_engine.proofs.OneWorker.{labels_by}
use Rattle.par_workers.specs.declared.made.Made.{Made}
use Rattle.par_workers.specs.Shared.{SharedValue, labels_made, maker, labels_in, table_after, core_after, KeepsAfter, KeepStores, IsShared, AreReceiptsOf}
use Rattle.par_workers.specs.Turns.{IsTakenOf, IsFoundBefore, HasConcluded}
use Rattle.par_workers.proofs.Labels.{labels_in-append, labels_in-more, all_by, made_by, receipts_more, by_workers-more}

same_core : (c d : CoreValue) → c.table ≡ d.table → c.journal ≡ d.journal → c.workers ≡ d.workers → c.budget ≡ d.budget → c ≡ d
same_core c d t j w b =
    ap (λ (x : TableValue). record { table = x; journal = c.journal; workers = c.workers; budget = c.budget }) t
    ∙ ap (λ (x : List Label). record { table = d.table; journal = x; workers = c.workers; budget = c.budget }) j
    ∙ ap (λ (x : ℕ). record { table = d.table; journal = d.journal; workers = x; budget = c.budget }) w
    ∙ ap (λ (x : ℕ). record { table = d.table; journal = d.journal; workers = d.workers; budget = x }) b

pub fixed_on : (c d e : CoreValue) → KeepsFixed c d → KeepsFixed d e → KeepsFixed c e
fixed_on c d e x y = record { program = y.program ∙ x.program; query = y.query ∙ x.query; workers = y.workers ∙ x.workers; budget = y.budget ∙ x.budget }

table_after-more : (t : TableValue) (ms : List Made) (m : Made) → table_after t (ms ++ m ∷ []) ≡ m.table.value
table_after-more t [] m = refl
table_after-more t (k ∷ ks) m = table_after-more k.table.value ks m

table_after-append : (t : TableValue) (ms ns : List Made) → table_after t (ms ++ ns) ≡ table_after (table_after t ms) ns
table_after-append t [] ns = refl
table_after-append t (m ∷ ms) ns = table_after-append m.table.value ms ns

-- stores that came before these labels were there before them
had_store : (count : ℕ) (t : TableValue) (ms : List Made) → KeepStores count t ms → (n : Name) (row : BoxRow) → (table_of (table_after t ms)).box_of n ≡ Some row → row.changed ≤ count → HadStore ((table_of t).box_of n) row
had_store count t [] k n row e old = (row, e, refl, refl)
had_store count t (m ∷ ms) k n row e old =
    let there : HadStore ((table_of m.table.value).box_of n) row = had_store (count + length (labels_made m)) m.table.value ms k.1 n row e (omega (arith, old)) in
    let later : count < k.0.0 = k.0.1 in
    elim (k.0.2 n there.0 there.1) [
      | inl new ↦ absurd (omega (arith, old, new, later, there.3))
      | inr was ↦ (was.0, was.1, was.2 ∙ there.2, was.3 ∙ there.3)
    ]

count_more : (count : ℕ) (m : Made) (ms : List Made) → count + length (labels_made m) + length (labels_in ms) ≡ count + length (labels_in (m ∷ ms))
count_more count m ms = let e : length (labels_in (m ∷ ms)) ≡ length (labels_made m) + length (labels_in ms) = length-append (labels_made m) (labels_in ms) in omega (arith, e)

keeps_behind : (count : ℕ) (t : TableValue) (ms ns : List Made) → KeepStores count t (ms ++ ns) → KeepStores (count + length (labels_in ms)) (table_after t ms) ns
keeps_behind count t [] ns k = subst (λ (i : ℕ). KeepStores i t ns) (let e : count ≡ count + 0 = omega arith in e) k
keeps_behind count t (m ∷ ms) ns k = subst (λ (i : ℕ). KeepStores i (table_after m.table.value ms) ns) (count_more count m ms) (keeps_behind (count + length (labels_made m)) m.table.value ms ns k.1)

keeps_more : (count : ℕ) (t : TableValue) (ms : List Made) (m : Made) → KeepStores count t ms → KeepsAfter (count + length (labels_in ms)) (table_after t ms) m.table.value → KeepStores count t (ms ++ m ∷ [])
keeps_more count t [] m k next = (subst (λ (i : ℕ). KeepsAfter i t m.table.value) (let e : count + 0 ≡ count = omega arith in e) next, tt)
keeps_more count t (l ∷ ls) m k next =
    (k.0, keeps_more (count + length (labels_made l)) l.table.value ls m k.1 (subst (λ (i : ℕ). KeepsAfter i (table_after l.table.value ls) m.table.value) (sym (count_more count l ls)) next))

-- so the table that was seen has those stores that no label behind it changed
shared_stores : (first : TableValue) (seen further : List Made) (t u : TableValue) (count : ℕ) → t ≡ table_after first seen → u ≡ table_after first (seen ++ further) → count ≡ length (labels_in seen)
    → KeepStores 0 first (seen ++ further) → SharesStores (table_of t) (table_of u) count
shared_stores first seen further t u count was now number keeps n row e old =
    let last : u ≡ table_after (table_after first seen) further = now ∙ table_after-append first seen further in
    let had : HadStore ((table_of (table_after first seen)).box_of n) row =
    had_store (length (labels_in seen)) (table_after first seen) further (subst (λ (i : ℕ). KeepStores i (table_after first seen) further) (let e : 0 + length (labels_in seen) ≡ length (labels_in seen) = omega arith in e) (keeps_behind 0 first seen further keeps)) n row (ap (λ (x : TableValue). (table_of x).box_of n) (sym last) ∙ e) (subst (λ (k : ℕ). row.changed ≤ k) number old) in
    ap (λ (x : TableValue). store_in ((table_of x).box_of n)) was ∙ ap store_in had.1 ∙ had.2

none_append : (l : Label) (xs ys : List Label) → NoneBy l xs → NoneBy l ys → NoneBy l (xs ++ ys)
none_append l [] ys first rest = rest
none_append l (x ∷ xs) ys first rest = (first.0, none_append l xs ys first.1 rest)

none_of : (l : Label) (worker : ℕ) (ls : List Label) → l.worker ≢ worker → AreBy worker ls → NoneBy l ls
none_of l worker [] differs are = tt
none_of l worker (k ∷ ks) differs are = (λ same. differs (same ∙ are.0), none_of l worker ks differs are.1)

none_by : (l : Label) (worker : ℕ) (ms : List Made) → l.worker ≡ worker → All (λ m. maker m ≢ worker) ms → NoneBy l (labels_in ms)
none_by l worker [] by all = tt
none_by l worker (m ∷ ms) by all =
    none_append l (labels_made m) (labels_in ms) (none_of l (maker m) (labels_made m) (λ same. All-head (λ m. maker m ≢ worker) m ms all (sym same ∙ by)) (made_by m))
    (none_by l worker ms by (All-tail (λ m. maker m ≢ worker) m ms all))

-- a commit keeps the stores that don't come with one of the plan's labels
pub kept_by : (c d : CoreValue) (p : PlanValue) (r : Receipt) → IsCore c → IsCore d → Commits c p d r → KeepsAfter (length c.journal) c.table d.table
kept_by c d p r before core made =
    let was : c.table.steps ≡ length c.journal = before.table.stamped.steps in
    let is : d.table.steps ≡ length c.journal + suc (length p.more) = core.table.stamped.steps ∙ ap (λ (ls : List Label). length ls) made.journal ∙ length-append c.journal (p.label ∷ p.more) in
    let kept : KeepsAfter c.table.steps c.table d.table =
    stores_kept c.table p.label (length p.more) (solved_in c p) p.names (table_of d.table) (omega (arith, was, is)) p.step made.made.leads in
    subst (λ (n : ℕ). KeepsAfter n c.table d.table) was kept

-- a run of no labels
pub shared_start : (c : CoreValue) → c.journal ≡ [] → IsShared (record { begun = c; past = [] }) c
shared_start c none = record {
  core = same_core c (core_after c []) refl none refl refl;
  fixed = record { program = refl; query = refl; workers = refl; budget = refl };
  workers = tt;
  stores = tt;
}

-- what was found is of a front of the journal
module _ (s : SharedValue) (c : CoreValue) (worker : ℕ) (n : Next) (is : IsShared s c) (f : IsFoundBefore s worker n) where
  abbrev taken : IsTakenOf (record { begun = s.begun; past = f.seen }) worker f.found.view
  taken = f.found.taken

  pub front_before : IsFront c f.found.view.table f.found.view.journal (labels_in f.goes.0)
  front_before = record {
    program = ap (λ (t : TableValue). t.program) taken.table ∙ taken.fixed.program ∙ sym is.fixed.program;
    query = ap (λ (t : TableValue). t.query) taken.table ∙ taken.fixed.query ∙ sym is.fixed.query;
    front = ap (λ (d : CoreValue). d.journal) is.core ∙ ap labels_in f.goes.1 ∙ labels_in-append f.seen f.goes.0
        ∙ ap (λ (ls : List Label). ls ++ labels_in f.goes.0) (sym taken.journal);
    same_stores = shared_stores s.begun.table f.seen f.goes.0 f.found.view.table c.table (length f.found.view.journal) taken.table
        (ap (λ (d : CoreValue). d.table) is.core ∙ ap (table_after s.begun.table) f.goes.1) (ap (λ (ls : List Label). length ls) taken.journal)
        (subst (KeepStores 0 s.begun.table) f.goes.1 is.stores);
  }

  -- so is what was made of it
  front_of : (table : TableValue) (journal : List Label) → table ≡ f.found.view.table → journal ≡ f.found.view.journal → IsFront c table journal (labels_in f.goes.0)
  front_of table journal of_table of_journal =
      subst (λ (t : TableValue). IsFront c t journal (labels_in f.goes.0)) (sym of_table)
      (subst (λ (ls : List Label). IsFront c f.found.view.table ls (labels_in f.goes.0)) (sym of_journal) front_before)

pub may_commit : (s : SharedValue) (c : CoreValue) (worker : ℕ) (p : PlanValue) → IsShared s c → IsFoundBefore s worker (Next.Plan p) → MayCommit c p
may_commit s c worker p is f =
    fronts.may_commit c p (labels_in f.goes.0) (front_of s c worker (Next.Plan p) is f p.table p.journal f.found.next.table f.found.next.journal)
    (none_by p.label worker f.goes.0 (f.found.next.worker ∙ f.found.taken.seer) f.goes.2)

pub may_settle : (s : SharedValue) (c : CoreValue) (worker : ℕ) (i : IdleValue) → IsShared s c → IsFoundBefore s worker (Next.Idle i) → MaySettle c i
may_settle s c worker i is f = fronts.may_settle c i (labels_in f.goes.0) (front_of s c worker (Next.Idle i) is f i.table i.journal f.found.next.idle.0 f.found.next.idle.1)

-- a plan's labels follow
pub shared_more : (s : SharedValue) (c d : CoreValue) (worker : ℕ) (p : PlanValue) (r : Receipt) (m : Made) → IsShared s c → IsFoundBefore s worker (Next.Plan p)
    → 1 ≤ worker → worker ≤ s.begun.workers → IsCore c → IsCore d → Commits c p d r → m.plan.value ≡ p → m.table.value ≡ d.table → IsShared (record { begun = s.begun; past = s.past ++ m ∷ [] }) d
shared_more s c d worker p r m is f least most before core made plan table =
    let of_plan : labels_made m ≡ p.label ∷ p.more = ap (λ (q : PlanValue). q.label ∷ q.more) plan in
    let by : maker m ≡ worker = ap (λ (q : PlanValue). q.label.worker) plan ∙ f.found.next.worker ∙ f.found.taken.seer in
    let journal : d.journal ≡ labels_in s.past ++ labels_made m = made.journal ∙ ap (λ (e : CoreValue). e.journal ++ p.label ∷ p.more) is.core ∙ ap (λ (ls : List Label). labels_in s.past ++ ls) (sym of_plan) in
    let keeps : KeepsAfter (length (labels_in s.past)) (table_after s.begun.table s.past) m.table.value =
    subst (λ (n : ℕ). KeepsAfter n (table_after s.begun.table s.past) m.table.value) (ap (λ (e : CoreValue). length e.journal) is.core)
    (subst (λ (t : TableValue). KeepsAfter (length c.journal) t m.table.value) (ap (λ (e : CoreValue). e.table) is.core) (subst (KeepsAfter (length c.journal) c.table) (sym table) (kept_by c d p r before core made))) in
    let fixed = fixed_on s.begun c d is.fixed made.fixed in record {
      core = same_core d (core_after s.begun (s.past ++ m ∷ [])) (sym table ∙ sym (table_after-more s.begun.table s.past m)) (journal ∙ sym (labels_in-more s.past m)) fixed.workers fixed.budget;
      fixed = fixed;
      workers = by_workers-more s.begun.workers s.past m is.workers (subst (λ n. 1 ≤ n) (sym by) least) (subst (λ n. n ≤ s.begun.workers) (sym by) most);
      stores = keeps_more 0 s.begun.table s.past m is.stores (subst (λ (i : ℕ). KeepsAfter i (table_after s.begun.table s.past) m.table.value) (let e : length (labels_in s.past) ≡ 0 + length (labels_in s.past) = omega arith in e) keeps);
    }

pub concluded_more : (s : SharedValue) (c d : CoreValue) (worker : ℕ) (p : PlanValue) (r : Receipt) (m : Made) (rs : List Receipt) → IsShared s c → IsFoundBefore s worker (Next.Plan p)
    → Commits c p d r → m.plan.value ≡ p → HasConcluded worker s rs (record { begun = s.begun; past = s.past ++ m ∷ [] }) (rs ++ receipts_from r.at r.seen (p.label ∷ p.more))
concluded_more s c d worker p r m rs is f made plan =
    let by : maker m ≡ worker = ap (λ (q : PlanValue). q.label.worker) plan ∙ f.found.next.worker ∙ f.found.taken.seer in
    let count : length c.journal ≡ length (labels_in s.past) = ap (λ (e : CoreValue). length e.journal) is.core in
    let front : length c.journal ≡ length f.found.view.journal + length (labels_in f.goes.0) = ap (λ (ls : List Label). length ls) (front_before s c worker (Next.Plan p) is f).front ∙ length-append f.found.view.journal (labels_in f.goes.0) in
    let seen : r.seen ≡ length f.found.view.journal = ap (λ (q : Receipt). q.seen) made.receipt ∙ ap (λ (ls : List Label). length ls) f.found.next.journal in
    let number : r.at ≡ length c.journal + 1 = ap (λ (q : Receipt). q.at) made.receipt in
    let before : r.seen < r.at = omega (arith, front, seen, number) in record {
      begun = refl;
      goes = (m ∷ [], refl, All-cons (λ m. maker m ≡ worker) m [] by (All-nil (λ m. maker m ≡ worker)));
      receipts = λ are. subst (λ (q : PlanValue). AreReceiptsOf worker (s.past ++ m ∷ []) (rs ++ receipts_from r.at r.seen (q.label ∷ q.more))) plan
          (receipts_more worker s.past m rs r.at r.seen by (number ∙ ap (λ n. n + 1) count) before are);
    }

-- its labels are the last ones of the journal
module _ (c d : CoreValue) (p : PlanValue) (r : Receipt) (made : Commits c p d r) where
  number : r.at ≡ length c.journal + 1
  number = ap (λ (q : Receipt). q.at) made.receipt

  pub labels_behind : drop (r.at - 1) d.journal ≡ p.label ∷ p.more
  labels_behind = ap (λ (n : ℕ). drop (n - 1) d.journal) number ∙ ap (λ (n : ℕ). drop n d.journal) (let e : length c.journal + 1 - 1 ≡ length c.journal = omega arith in e)
      ∙ ap (drop (length c.journal)) made.journal ∙ drop-append_seam c.journal (p.label ∷ p.more)

  pub number_within : (1 ≤ r.at) × (r.at ≤ length d.journal)
  number_within =
      let long : length d.journal ≡ length c.journal + suc (length p.more) = ap (λ (ls : List Label). length ls) made.journal ∙ length-append c.journal (p.label ∷ p.more) in
      (omega (arith, number), omega (arith, number, long))

-- all of them are by the plan's worker
pub plan_by : (p q : PlanValue) → q ≡ p → IsRight p → All (λ (l : Label). l.worker ≡ q.label.worker) q.more
plan_by p q same right = subst (λ (k : PlanValue). All (λ (l : Label). l.worker ≡ k.label.worker) k.more) (sym same) (all_by p.label.worker p.more (labels_by p right).1)

pub concluded_none : (worker : ℕ) (s : SharedValue) (rs : List Receipt) → HasConcluded worker s rs s rs
concluded_none worker s rs = record { begun = refl; goes = ([], sym (append-nil s.past), All-nil (λ m. maker m ≡ worker)); receipts = λ are. are }
