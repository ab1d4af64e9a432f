use Rattle.std.proofs.Common.{◌≡◌, ◌<◌, ℕ, List, length, map, true, false, inl, inr, subst, sym, ◌∙◌}
use Rattle.std.specs.Prelude.{◌⊎◌}
use Rattle.std.specs.Global.{Vec}
use Rattle.std.proofs.lemmas.Bool.Decides.{Decides-eqb}
use Rattle.std.proofs.lemmas.Slice.Eq.{slice_eq-Decides}
use Rattle.std.proofs.lemmas.List.{length-map}
use Rattle.tree_parts.specs.Firsts.{AreFirsts}
use Rattle.tree_parts.specs.Parts.{IsPartition, AreKeysBefore}
use Rattle.tree_parts.proofs.Rounds.{slack, next-partition, next-falls, last-refined}
use Rattle.tree_parts.proofs.parts.refine.Goals as goal

pub loop-blocks-init : goal.loop-blocks-init
loop-blocks-init c = subst (λ (start : List ℕ). IsPartition (map (λ v. v.items) c.args.rows.now) start c.in_ok-blocks.blocks.items) c.deref.ensures.value c.in_ok-blocks.ensures

pub loop-blocks-preserved : goal.loop-blocks-preserved
loop-blocks-preserved c =
    let rows : List (List ℕ) = map (λ v. v.items) c.args.rows.now in
    let keys : List (List ℕ) = map (λ k. k.items) c.in_ok-keys.keys.items in
    let before : AreKeysBefore rows c.loop-blocks.blocks.items keys (length rows) =
    subst (λ (bs : List ℕ). AreKeysBefore rows bs keys (length rows)) c.deref-in-loop-blocks.ensures.value (subst (λ (n : ℕ). AreKeysBefore rows c.deref-in-loop-blocks.result.now keys n) (sym (length-map c.args.rows.now (λ v. v.items))) c.in_ok-keys.ensures) in
    let firsts : AreFirsts keys c.in_ok-next.next.items = subst (λ (ks : List (Vec ℕ)). AreFirsts (map (λ k. k.items) ks) c.in_ok-next.next.items) c.deref-in-loop-blocks-2.ensures.value c.in_ok-next.ensures in
    next-partition rows c.args.start.items c.loop-blocks.blocks.items c.in_ok-next.next.items keys c.requires.within c.requires.even c.loop-blocks.invariant before firsts

pub loop-blocks-smaller : goal.loop-blocks-smaller
loop-blocks-smaller c =
    let rows : List (List ℕ) = map (λ v. v.items) c.args.rows.now in
    let keys : List (List ℕ) = map (λ k. k.items) c.in_ok-keys.keys.items in
    let before : AreKeysBefore rows c.loop-blocks.blocks.items keys (length rows) =
    subst (λ (bs : List ℕ). AreKeysBefore rows bs keys (length rows)) c.deref-in-loop-blocks.ensures.value (subst (λ (n : ℕ). AreKeysBefore rows c.deref-in-loop-blocks.result.now keys n) (sym (length-map c.args.rows.now (λ v. v.items))) c.in_ok-keys.ensures) in
    let firsts : AreFirsts keys c.in_ok-next.next.items = subst (λ (ks : List (Vec ℕ)). AreFirsts (map (λ k. k.items) ks) c.in_ok-next.next.items) c.deref-in-loop-blocks-2.ensures.value c.in_ok-next.ensures in
    let falls : (slack 0 c.in_ok-next.next.items < slack 0 c.loop-blocks.blocks.items) ⊎ (c.in_ok-next.next.items ≡ c.loop-blocks.blocks.items) =
    next-falls rows c.args.start.items c.loop-blocks.blocks.items c.in_ok-next.next.items keys c.requires.within c.requires.even c.loop-blocks.invariant before firsts in
    elim falls [ inl l ↦ l | inr e ↦ (let t : c.eq.result ≡ true = (slice_eq-Decides Decides-eqb c.in_ok-next.next.items c.loop-blocks.blocks.items c.eq.result c.eq.ensures).1 e in let z : true ≡ false = sym t ∙ c.if-eq.false in absurd cc) ]

pub returns-then-eq : goal.returns-then-eq
returns-then-eq c =
    let rows : List (List ℕ) = map (λ v. v.items) c.args.rows.now in
    let keys : List (List ℕ) = map (λ k. k.items) c.in_ok-keys.keys.items in
    let before : AreKeysBefore rows c.loop-blocks.blocks.items keys (length rows) =
    subst (λ (bs : List ℕ). AreKeysBefore rows bs keys (length rows)) c.deref-in-loop-blocks.ensures.value (subst (λ (n : ℕ). AreKeysBefore rows c.deref-in-loop-blocks.result.now keys n) (sym (length-map c.args.rows.now (λ v. v.items))) c.in_ok-keys.ensures) in
    let firsts : AreFirsts keys c.in_ok-next.next.items = subst (λ (ks : List (Vec ℕ)). AreFirsts (map (λ k. k.items) ks) c.in_ok-next.next.items) c.deref-in-loop-blocks-2.ensures.value c.in_ok-next.ensures in
    last-refined rows c.args.start.items c.loop-blocks.blocks.items c.in_ok-next.next.items keys c.requires.within c.requires.even c.loop-blocks.invariant before firsts
    ((slice_eq-Decides Decides-eqb c.in_ok-next.next.items c.loop-blocks.blocks.items c.eq.result c.eq.ensures).0 c.if-eq.true)
