use Rattle.std.proofs.Common.{◌≡◌, List, length, map, true, sym, ap, subst, ◌∙◌, take_at, arith}
use Rattle.std.proofs.lemmas.Bool.Decides.{nat_tests}
use Rattle.std.proofs.lemmas.List.{length-map}
use Rattle.std.specs.Prelude.{drop}
use Rattle.akl_terms.specs.declared.name.Var.{Var}
use Rattle.akl_terms.specs.declared.term.Term.{Term}
use Rattle.rational_unify.specs.Older.{EachOlder}
use Rattle.local_store.specs.Stored.{nothing, with_bindings}
use Rattle.box_copies.specs.Renamer.{swapped_name, binding_by, with_frames}
use Rattle.box_copies.proofs.Stored.{made_bound}
use Rattle.box_copies.proofs.stores.copied_bindings.Goals.{else-older-via-then-older+else-not-leads_older, else-older-via-else-older}
use Rattle.box_copies.proofs.stores.copied_bindings.Goals as goal

pub returns : goal.returns
returns c =
    let items = c.in_ok-bindings.bindings.items in
    let swapped = c.swap_bindings.new.bindings in
    let long : length swapped ≡ length items = ap length c.swap_bindings.ensures ∙ length-map c.as_mut_slice.result.now (binding_by (swapped_name c.args.names.now)) ∙ ap length c.as_mut_slice.ensures.value in
    let made = take_at swapped (drop (length swapped) items) (length items) long ∙ c.swap_bindings.ensures ∙ ap (map (binding_by (swapped_name c.args.names.now))) (c.as_mut_slice.ensures.value ∙ c.in_ok-bindings.ensures) in
    let bindings = c.as_slice-3.ensures ∙ made in
    let frames = c.as_slice-2.ensures.value ∙ c.swap_frames.ensures ∙ ap (map (swapped_name c.args.names.now)) c.in_ok-frames.ensures in (
      c.in_ok-copy.ensures ∙ made_bound c.as_slice-2.result.now c.as_slice-3.result.now ∙ (λ i. with_bindings (with_frames nothing (frames i)) (bindings i)),
      λ older. elim c.else-older.branch [
        | else-older-via-then-older+else-not-leads_older w ↦
            let holds : w.leads_older.result ≡ true = let f = w.if-not-leads_older.false in let e = w.if-not-leads_older.ensures in grind (arith, nat_tests) in
            subst (EachOlder c.args.templates.now.nodes) (w.as_slice.ensures ∙ made) (w.leads_older.ensures.0 holds)
        | else-older-via-else-older w ↦ let no = w.if-older.false in grind (arith, nat_tests)
      ],
    )
