use Rattle.std.proofs.Common.{rules, sym, ◌∙◌}
use Rattle.std.proofs.lemmas.Iterator.Adapters.{option_map_id}
use Rattle.packet_codec.proofs.PartsLemmas.{shown_as, no_stamp, no_id, no_tags, no_mime, no_file, no_route, fields_found, no_fields_with_rest, all_fields}
use Rattle.packet_codec.proofs.parts.parts_of.Goals as goal

pub returns-in_err-stamp-clause-none : goal.returns-in_err-stamp-clause-none
returns-in_err-stamp-clause-none c = rw c.from_residual.ensures (no_stamp c.args.first c.args.second _ c.type_inv.bytes c.in_err-stamp.ensures.none)

pub returns-in_err-id-clause-none : goal.returns-in_err-id-clause-none
returns-in_err-id-clause-none c = rw c.from_residual-in_err-id.ensures (no_id c.args.first c.args.second _ c.type_inv.bytes _ _ c.in_ok-stamp.ensures.found.1 c.in_err-id.ensures.none)

pub returns-in_err-tags-clause-none : goal.returns-in_err-tags-clause-none
returns-in_err-tags-clause-none c = rw c.from_residual-in_err-tags.ensures (no_tags c.args.first c.args.second _ c.type_inv.bytes _ _ c.in_ok-stamp.ensures.found.1 _ _ c.in_ok-id.ensures.found.1 c.in_err-tags.ensures.none)

pub returns-in_err-mime-clause-none : goal.returns-in_err-mime-clause-none
returns-in_err-mime-clause-none c = rw c.from_residual-in_err-mime.ensures (no_mime c.args.first c.args.second _ c.type_inv.bytes _ _ c.in_ok-stamp.ensures.found.1 _ _ c.in_ok-id.ensures.found.1 _ _ c.in_ok-tags.ensures.found.1 c.in_err-mime.ensures.none)

pub returns-in_err-file-clause-none : goal.returns-in_err-file-clause-none
returns-in_err-file-clause-none c = rw c.from_residual-in_err-file.ensures (no_file c.args.first c.args.second _ c.type_inv.bytes _ _ c.in_ok-stamp.ensures.found.1 _ _ c.in_ok-id.ensures.found.1 _ _ c.in_ok-tags.ensures.found.1 _ _ c.in_ok-mime.ensures.found.1 c.in_err-file.ensures.none)

pub returns-in_err-route-clause-none : goal.returns-in_err-route-clause-none
returns-in_err-route-clause-none c = rw c.from_residual-in_err-route.ensures (no_route c.args.first c.args.second _ c.type_inv.bytes _ _ c.in_ok-stamp.ensures.found.1 _ _ c.in_ok-id.ensures.found.1 _ _ c.in_ok-tags.ensures.found.1 _ _ c.in_ok-mime.ensures.found.1 _ _ c.in_ok-file.ensures.found.1 c.in_err-route.ensures.none)

pub returns-then-not-is_empty-clause-none : goal.returns-then-not-is_empty-clause-none
returns-then-not-is_empty-clause-none c =
    no_fields_with_rest c.args.first c.args.second _ _ _ c.type_inv.bytes (fields_found c.args.first c.args.second _ c.type_inv.bytes _ _ c.in_ok-stamp.ensures.found.1 _ _ c.in_ok-id.ensures.found.1 _ _ c.in_ok-tags.ensures.found.1 _ _ c.in_ok-mime.ensures.found.1 _ _ c.in_ok-file.ensures.found.1 _ _ c.in_ok-route.ensures.found.1) (search rules)

pub returns-clause-found : goal.returns-clause-found
returns-clause-found c =
    let stamp = c.in_ok-stamp.ensures.found in
    let id = c.in_ok-id.ensures.found in
    let tags = c.in_ok-tags.ensures.found in
    let mime = c.in_ok-mime.ensures.found in
    let file = c.in_ok-file.ensures.found in
    let route = c.in_ok-route.ensures.found in
    let found = fields_found c.args.first c.args.second _ c.type_inv.bytes _ _ stamp.1 _ _ id.1 _ _ tags.1 _ _ mime.1 _ _ file.1 _ _ route.1 in
    (_, all_fields c.args.first c.args.second _ _ _ found (search rules), record { stamp = sym (option_map_id _) ∙ shown_as (λ s. s) _ _ stamp.2; id = shown_as _ _ _ id.2; tags = tags.2; mime = shown_as _ _ _ mime.2; file = shown_as _ _ _ file.2; route = shown_as _ _ _ route.2 })
