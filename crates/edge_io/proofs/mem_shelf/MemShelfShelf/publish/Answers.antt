use Rattle.std.proofs.Common.{◌∙◌, ap, arith, ℕ, None, nat_eq, List, length}
use Rattle.edge_io.specs.declared.published_files.File.{File}
use Rattle.edge_io.specs.Disk.{Draft, Folder}
use Rattle.edge_io.specs.Steps.{moved, placed}
use Rattle.edge_io.specs.MemState.{folder_of}
use Rattle.edge_io.proofs.KeptLemmas.{publish_step, all_published_later, past_within_later, remembers_more}
use Rattle.edge_io.proofs.mem_shelf.MemShelfShelf.publish.Goals as goal

pub invariant_of-self-2 : goal.invariant_of-self-2
invariant_of-self-2 c =
    let s = c.args.self.now in
    let file : File = record { name = c.in-Ok.name; bytes = c.replace-bytes.result } in
    record {
      settled_first = omega arith;
      one_pending = omega arith;
      all_published = all_published_later s.files.items c.keep_file.new.files.items s.current s.past.items c.keep_file.new.past.items file s.settled_first s.one_pending s.all_published c.in-Ok-keep_file.ensures.files c.requires.settled;
      past_within = past_within_later s.files.items c.keep_file.new.files.items s.current s.past.items c.keep_file.new.past.items file s.settled_first s.one_pending s.all_published c.in-Ok-keep_file.ensures.files s.past_within c.in-Ok-keep_file.ensures.past;
      since_a_call = omega arith;
    }

pub returns-clause-ok : goal.returns-clause-ok
returns-clause-ok c =
    let s = c.args.self.now in
    let draft : Draft = record { bytes = s.draft.items; synced = s.synced } in
    let file : File = record { name = c.in-Ok.name; bytes = c.replace-bytes.result } in
    let same = ap (λ v. v.items) c.replace-bytes.ensures.value in
    let size = ap (nat_eq s.synced) (c.len.ensures ∙ c.replace-bytes.result.ok.0 ∙ ap length same) in
    let step = publish_step s.files.items c.keep_file.new.files.items s.current s.past.items c.keep_file.new.past.items s.drafting draft file _ c.count_call.new.self.calls
    s.settled_first s.one_pending s.all_published s.past_within c.requires same size c.in-Ok-keep_file.ensures.files c.in-Ok-keep_file.ensures.past in
    let f : Folder = folder_of s in
    step ∙ ap (λ (name : List ℕ). moved f (placed name f.disk f.draft) None) c.in-Ok.ensures.ok

pub returns-clause-moments : goal.returns-clause-moments
returns-clause-moments c =
    let s = c.args.self.now in
    let file : File = record { name = c.in-Ok.name; bytes = c.replace-bytes.result } in
    λ moment before. remembers_more s.files.items s.past.items c.keep_file.new.past.items s.current _ moment c.in-Ok-keep_file.ensures.past before c.keep_file.new.files.items file c.in-Ok-keep_file.ensures.files s.settled_first s.one_pending s.all_published s.past_within
