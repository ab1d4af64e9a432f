use Rattle.std.proofs.Common.{◌≡◌, ◌≤◌, ◌<◌, false, true, length, get_or, sym, ap, ◌∙◌, arith}
use Rattle.std.specs.List.{insert}
use Rattle.std.specs.Ordering.{is_lt}
use Rattle.akl_terms.specs.declared.name.Name.{Name}
use Rattle.akl_terms.specs.Names.{same_name, name_cmp}
use Rattle.akl_terms.proofs.SameNames.{same_name-equal, same_name-refl}
use Rattle.local_store.specs.Kept.{frame_place}
use Rattle.std.proofs.lemmas.List.{get_or_read}
use Rattle.local_store.proofs.Places.{named-there, named-here, front-within}
use Rattle.local_store.proofs.listed.put_frame.Goals.{else-place-len-via-then-place-len+else-eq, else-place-len-via-else-place-len}
use Rattle.local_store.proofs.listed.put_frame.Goals as goal

pub returns-then-eq : goal.returns-then-eq
returns-then-eq c =
    let place : c.frame_place-place.result ≡ frame_place c.args.frames.now.items c.args.frame = c.frame_place-place.ensures ∙ ap (λ l. frame_place l c.args.frame) c.deref.ensures.value in
    let within : frame_place c.args.frames.now.items c.args.frame < length c.args.frames.now.items = let l = c.len.ensures in let t = c.if-place-len.true in let ok = c.args.frames.now.ok in omega arith in
    let here : get_or c.args.frames.now.items (frame_place c.args.frames.now.items c.args.frame) c.index.result.now ≡ c.args.frame =
    sym (c.index.ensures ∙ ap (λ n. get_or c.args.frames.now.items n c.index.result.now) place) ∙ same_name-equal c.index.result.now c.args.frame (sym c.eq.ensures ∙ c.if-eq.true) in
    sym (named-there c.args.frame c.args.frames.now.items c.index.result.now within here)

pub insert-requires : goal.insert-requires
insert-requires c =
    let place : c.frame_place-place.result ≡ frame_place c.args.frames.now.items c.args.frame = c.frame_place-place.ensures ∙ ap (λ l. frame_place l c.args.frame) c.deref.ensures.value in
    let within : frame_place c.args.frames.now.items c.args.frame ≤ length c.args.frames.now.items = front-within (λ m. is_lt (name_cmp m c.args.frame)) c.args.frames.now.items in
    let ok = c.args.frames.now.ok in
    omega arith

pub returns : goal.returns
returns c =
    let place : c.frame_place-place.result ≡ frame_place c.args.frames.now.items c.args.frame = c.frame_place-place.ensures ∙ ap (λ l. frame_place l c.args.frame) c.deref.ensures.value in
    let other : (d : Name) → frame_place c.args.frames.now.items c.args.frame < length c.args.frames.now.items → get_or c.args.frames.now.items (frame_place c.args.frames.now.items c.args.frame) d ≡ c.args.frame → ⊥ =
    λ d within here. elim c.else-place-len.branch [
      | else-place-len-via-then-place-len+else-eq w ↦
          let e : w.index.result.now ≡ c.args.frame = get_or_read c.args.frames.now.items c.frame_place-place.result w.index.result.now (omega (arith, place, within)) w.index.ensures d ∙ ap (λ n. get_or c.args.frames.now.items n d) place ∙ here in
          let no : same_name w.index.result.now c.args.frame ≡ false = sym w.eq.ensures ∙ w.if-eq.false in
          let yes : same_name w.index.result.now c.args.frame ≡ true = ap (λ n. same_name n c.args.frame) e ∙ same_name-refl c.args.frame in
          cc
      | else-place-len-via-else-place-len w ↦ let t = w.if-place-len.false in let l = c.len.ensures in let ok = c.args.frames.now.ok in absurd (omega arith)
    ] in
    c.in_ok-insert.ensures.items ∙ ap (λ n. insert c.args.frames.now.items n c.args.frame) place ∙ named-here c.args.frame c.args.frames.now.items other
