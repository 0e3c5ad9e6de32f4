use Rattle.std.proofs.Common.{◌∙◌, arith}
use Rattle.edge_io.specs.declared.published_files.File.{File}
use Rattle.edge_io.specs.Disk.{put, at_rest}
use Rattle.edge_io.specs.Steps.{moved}
use Rattle.edge_io.specs.MemState.{folder_of}
use Rattle.edge_io.proofs.KeptLemmas.{put_step, all_published_later, past_within_later, remembers_more}
use Rattle.edge_io.proofs.mem_shelf.MemShelf.put.Goals as goal

pub invariant_of-self-2 : goal.invariant_of-self-2
invariant_of-self-2 c =
    let s = c.args.self.now in
    let file : File = record { name = c.into_string.result; bytes = c.into_vec.result } in
    record {
      settled_first = omega arith;
      one_pending = omega arith;
      all_published = all_published_later s.files.items c.keep_file.new.files.items s.current s.past.items c.keep_file.new.past.items file s.settled_first s.one_pending s.all_published c.in_ok-keep_file.ensures.files c.requires;
      past_within = past_within_later s.files.items c.keep_file.new.files.items s.current s.past.items c.keep_file.new.past.items file s.settled_first s.one_pending s.all_published c.in_ok-keep_file.ensures.files s.past_within c.in_ok-keep_file.ensures.past;
      since_a_call = omega arith;
    }

pub returns-clause-ok : goal.returns-clause-ok
returns-clause-ok c =
    let s = c.args.self.now in
    let file : File = record { name = c.into_string.result; bytes = c.into_vec.result } in
    let f = folder_of s in
    put_step s.files.items c.keep_file.new.files.items s.current s.past.items c.keep_file.new.past.items _ file s.plan.calls s.settled_first s.one_pending s.all_published s.past_within c.requires c.in_ok-keep_file.ensures.files c.in_ok-keep_file.ensures.past
    ∙ (λ i. moved f (at_rest (put f.disk.published (c.into_string.ensures i) (c.into_vec.ensures i))) f.draft)

pub returns-clause-moments : goal.returns-clause-moments
returns-clause-moments c =
    let s = c.args.self.now in
    let file : File = record { name = c.into_string.result; bytes = c.into_vec.result } in
    λ moment before. remembers_more s.files.items s.past.items c.keep_file.new.past.items s.current _ moment c.in_ok-keep_file.ensures.past before c.keep_file.new.files.items file c.in_ok-keep_file.ensures.files s.settled_first s.one_pending s.all_published s.past_within
