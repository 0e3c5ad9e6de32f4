use Rattle.std.proofs.Common.{◌∙◌, sym, ap, ◌≤◌, length, take, arith}
use Rattle.std.proofs.lemmas.List.{length-take-le}
use Rattle.std.proofs.lemmas.List.Elements.{All-nil, All-same}
use Rattle.edge_io.specs.Kept.{KnowsFirst, lookup}
use Rattle.edge_io.proofs.KeptLemmas.{few, image_folder, choice_counts, forces_now}
use Rattle.edge_io.proofs.mem_shelf.MemShelf.image.Goals as goal

pub slice_bounds-copied_files-end : goal.slice_bounds-copied_files-end
slice_bounds-copied_files-end c =
    let s = c.args.self.now in
    let first = few s.files.items s.past.items s.current c.args.moment s.settled_first s.one_pending s.all_published s.past_within _ c.deref.ensures.value _ c.mark_at-mark.ensures c.args.choice _ c.file_count_at-count.ensures in
    let same = ap length c.deref-2.ensures.value in
    let all : c.file_count_at-count.result ≤ length c.deref-2.result.now = omega (arith, first, same) in
    sym (length-take-le _ _ all)

pub invariant_of-result : goal.invariant_of-result
invariant_of-result c =
    let s = c.args.self.now in
    let first = few s.files.items s.past.items s.current c.args.moment s.settled_first s.one_pending s.all_published s.past_within _ c.deref.ensures.value _ c.mark_at-mark.ensures c.args.choice _ c.file_count_at-count.ensures in
    let same = ap length c.deref-2.ensures.value in
    let all : c.file_count_at-count.result ≤ length c.deref-2.result.now = omega (arith, first, same) in
    record {
      settled_first = omega arith;
      one_pending = omega arith;
      all_published = sym (c.in_ok-files.ensures.length ∙ length-take-le _ _ all);
      past_within = All-same (KnowsFirst (length c.in_ok-files.files.items)) _ _ c.new.ensures.items (All-nil _);
      since_a_call = omega arith;
    }

pub returns-clause-rest : goal.returns-clause-rest
returns-clause-rest c =
    let s = c.args.self.now in
    let first = few s.files.items s.past.items s.current c.args.moment s.settled_first s.one_pending s.all_published s.past_within _ c.deref.ensures.value _ c.mark_at-mark.ensures c.args.choice _ c.file_count_at-count.ensures in
    let length_same = ap length c.deref-2.ensures.value in
    let all : c.file_count_at-count.result ≤ length c.deref-2.result.now = omega (arith, first, length_same) in
    let size = sym (c.in_ok-files.ensures.length ∙ length-take-le _ _ all) in
    let same = c.in_ok-files.ensures.same ∙ ap (λ l. lookup (take c.file_count_at-count.result l)) c.deref-2.ensures.value in
    record {
      folder = image_folder s.files.items s.past.items s.current c.args.moment s.settled_first s.one_pending s.all_published s.past_within _ c.deref.ensures.value _ c.mark_at-mark.ensures c.args.choice _ c.file_count_at-count.ensures c.in_ok-files.files.items _ same size c.new.ensures.items 0;
      counts = choice_counts _ _ _ c.args.choice;
      now = λ come. forces_now s.files.items s.past.items s.current c.args.moment (omega (arith, s.since_a_call, come));
    }
