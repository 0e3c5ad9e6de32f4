use Rattle.std.proofs.Common.{Bor, List, ℕ, ◌≡◌, ◌∙◌, sym, refl, rules, inl, inr, true, map, Some, ◌∷◌, []}
use Rattle.std.proofs.lemmas.Bool.{cases_Bool}
use Rattle.std.specs.Result.{is_ok}
use Rattle.std.proofs.lemmas.List.{map-append}
use Rattle.csv.specs.Reading.{Reached, ReadRecord, default_config, source_of, strip_bom}
use Rattle.csv.specs.Records.{fields_of}
use Rattle.csv.specs.declared.reader.Reader.{Reader}
use Rattle.csv.specs.declared.parser.State.TheVariants as st
use Rattle.csv.proofs.ReadFacts.{rows-end, rows-more}
use Rattle.sub_export.proofs.exported_text.below_head.Goals as goal

-- the header row, read from the start of a text
header_read : {R : Type 0} (rem : R → _) (a m : Reader R) (names : List (List ℕ)) (xs : List ℕ) → a.config ≡ default_config → source_of rem a ≡ Some xs → a.state ≡ st.StartRecord → ReadRecord rem a m true names
    → (z : List ℕ) × (source_of rem m ≡ Some z) × Reached default_config st.StartRecord xs (names ∷ []) m.state z
unfolding Reached
header_read rem a m names xs config source start r = rows-more rem a m names default_config st.StartRecord xs xs [] config source (sym start, refl) r

pub loop-record-init : goal.loop-record-init
loop-record-init c =
    let fr = c.from_reader-reader.ensures in
    let start = c.into_iter-record-iterator.ensures.into_iter_gives ∙ refl in
    let rdr = c.into_byte_records-record-items.ensures.rdr in
    let left = c.into_byte_records-record-items.ensures.left in
    rw (start, rdr, c.new-records.ensures.items) (inl (fr.trim, (fr.first, fr.has_headers, fr.headers), left, fr.config, fr.source, fr.state, refl))

pub loop-record-preserved : goal.loop-record-preserved
loop-record-preserved c =
    let good : is_ok c.push.result ≡ true = search rules in
    let items = rw good at c.push.ensures.items in
    let f = fields_of c.in_ok-record.field-0 in
    elim c.loop-record.invariant [
      | inl fresh ↦
          let (t, head, left, config, source, start, none) = fresh in
          let s = rw (c.in-Some.is, c.in_ok-record.was) at ((c.next.ensures.steps left t).1 head) in
          let (after, first_set, more_left) = s in
          let (m, first, names, header, row) = after in
          elim (cases_Bool first) [
            | inl found ↦
                let (z, at_z, reached) = header_read (λ (s : Bor (List ℕ)). Some s.now) c.loop-record.record-iterator.rdr m names (strip_bom c.args.text.now) config source start (rw found at header) in
                let (w, at_w, next) = rows-more (λ (s : Bor (List ℕ)). Some s.now) m c.next.new.self.rdr f default_config st.StartRecord (strip_bom c.args.text.now) z (names ∷ []) (header.2 ∙ config) at_z reached row in
                inr (inl (row.3 ∙ header.3 ∙ t, inl first_set, more_left, row.2 ∙ header.2 ∙ config, w, at_w, names, rw (items, none) next))
            | inr gone ↦ inr (inr (rw start at (rows-end (λ (s : Bor (List ℕ)). Some s.now) c.loop-record.record-iterator.rdr m names default_config (strip_bom c.args.text.now) config source (rw gone at header))))
          ]
      | inr later ↦ elim later [
        | inl going ↦
            let (t, ready, left, config, y, source, names, reached) = going in
            let s = rw (c.in-Some.is, c.in_ok-record.was) at ((c.next.ensures.steps left t).0 ready) in
            let (z, at_z, next) = rows-more (λ (s : Bor (List ℕ)). Some s.now) c.loop-record.record-iterator.rdr c.next.new.self.rdr f default_config st.StartRecord (strip_bom c.args.text.now) y (names ∷ map fields_of c.loop-record.records.items) config source reached s.0 in
            inr (inl (s.0.3 ∙ t, inl s.1, s.2, s.0.2 ∙ config, z, at_z, names, rw (items, map-append fields_of c.loop-record.records.items (c.in_ok-record.field-0 ∷ [])) next))
        | inr empty ↦ inr (inr empty)
      ]
    ]

pub returns : goal.returns
returns c =
    elim c.loop-record.invariant [
      | inl fresh ↦
          let (t, head, left, config, source, start, none) = fresh in
          let s = rw c.in-None.is at ((c.next.ensures.steps left t).1 head) in
          let (m, first, names, header, row) = s in
          elim (cases_Bool first) [
            | inl found ↦
                let (z, at_z, reached) = header_read (λ (s : Bor (List ℕ)). Some s.now) c.loop-record.record-iterator.rdr m names (strip_bom c.args.text.now) config source start (rw found at header) in
                inr (names, (m.state, z, rw none reached, rows-end (λ (s : Bor (List ℕ)). Some s.now) m c.next.new.self.rdr [] default_config z (header.2 ∙ config) at_z row))
            | inr gone ↦ inl (rw start at (rows-end (λ (s : Bor (List ℕ)). Some s.now) c.loop-record.record-iterator.rdr m names default_config (strip_bom c.args.text.now) config source (rw gone at header)))
          ]
      | inr later ↦ elim later [
        | inl going ↦
            let (t, ready, left, config, y, source, names, reached) = going in
            let s = rw c.in-None.is at ((c.next.ensures.steps left t).0 ready) in
            inr (names, (c.loop-record.record-iterator.rdr.state, y, reached, rows-end (λ (s : Bor (List ℕ)). Some s.now) c.loop-record.record-iterator.rdr c.next.new.self.rdr [] default_config y config source s))
        | inr empty ↦ inl empty
      ]
    ]
