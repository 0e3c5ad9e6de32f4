-- The fields of a packet, one after another.
use Rattle.std.proofs.Common.{◌≡◌, ℕ, Option, Some, None, option_map, List, [], length, refl, sym, ap, ◌<◌, arith}
use Rattle.std.proofs.lemmas.List.{append-nil, nil_from_length}
use Rattle.sub_number.proofs.NumberLemmas.{AreBytes}
use Rattle.packet_codec.specs.declared.stamp.Stamp.{Stamp}
use Rattle.packet_codec.specs.Grammar.{SpellsFront, NotFound}
use Rattle.packet_codec.specs.Fields.{SpellsStamp}
use Rattle.packet_codec.specs.Shapes.{ByteRun, CountedRuns, NamedRun, ShowsOptional, bit, Contents, StampShape, IdShape, TagsShape, MimeShape, FileShape, RouteShape, FromFile, FromMime, FromTags, FromId, FieldShapes}
use Rattle.packet_codec.proofs.GrammarLemmas.{IsPrefixFree, pair_free, flagged_free, found_same, found_are, found_pair, not_first, not_second}
use Rattle.packet_codec.proofs.ShapeLemmas.{run_free, named_run_free, counted_runs_free, stamp_free}

-- a value that is told where it stands is what stands there
pub shown_as : {A B : Type 0} (f : A → B) (shown : Option A) (told : Option B) → ShowsOptional (λ (a : A) (b : B). f a ≡ b) shown told → option_map f shown ≡ told
shown_as f None None same = refl
shown_as f None (Some value) same = absurd same
shown_as f (Some part) None same = absurd same
shown_as f (Some part) (Some value) same = ap Some same

module _ (first second : ℕ) where
  pub stamp_shape_free : IsPrefixFree (StampShape first)
  stamp_shape_free = flagged_free (bit first 2) SpellsStamp stamp_free

  pub id_shape_free : IsPrefixFree (IdShape first)
  id_shape_free = flagged_free (bit first 8) ByteRun run_free

  pub tags_shape_free : IsPrefixFree (TagsShape second)
  tags_shape_free = flagged_free (bit second 128) CountedRuns counted_runs_free

  pub mime_shape_free : IsPrefixFree (MimeShape second)
  mime_shape_free = flagged_free (bit second 32) ByteRun run_free

  pub file_shape_free : IsPrefixFree (FileShape second)
  file_shape_free = flagged_free (bit second 64) NamedRun named_run_free

  pub route_shape_free : IsPrefixFree (RouteShape first)
  route_shape_free = flagged_free (bit first 4) ByteRun run_free

  -- two lists of all fields are one
  pub fields_free : IsPrefixFree (FieldShapes first second)
  fields_free =
      pair_free (StampShape first) (FromId first second) stamp_shape_free (
      pair_free (IdShape first) (FromTags first second) id_shape_free (
      pair_free (TagsShape second) (FromMime first second) tags_shape_free (
      pair_free (MimeShape second) (FromFile first second) mime_shape_free (
      pair_free (FileShape second) (RouteShape first) file_shape_free route_shape_free))))

  -- where the fields end before the bytes do, there are no fields that end with them
  pub no_fields_with_rest : (bytes rest : List ℕ) (c : Contents) → AreBytes bytes → SpellsFront (FieldShapes first second) bytes c rest → 0 < length rest → (d : Contents) → FieldShapes first second bytes d → ⊥
  no_fields_with_rest bytes rest c are found some d shape =
      let whole : SpellsFront (FieldShapes first second) bytes d [] = record { front = bytes; parts = sym (append-nil bytes); spelled = shape } in
      let same = found_same (FieldShapes first second) fields_free bytes rest [] c d are found whole in
      omega (arith, ap length same.rest)

  pub all_fields : (bytes rest : List ℕ) (c : Contents) → SpellsFront (FieldShapes first second) bytes c rest → length rest ≡ 0 → FieldShapes first second bytes c
  all_fields bytes rest c found none = rw (found.parts, nil_from_length rest none, append-nil) found.spelled

  never_all : (bytes : List ℕ) → NotFound (FieldShapes first second) bytes → (c : Contents) → FieldShapes first second bytes c → ⊥
  never_all bytes never c shape = never c [] (record { front = bytes; parts = sym (append-nil bytes); spelled = shape })

  -- after each field: where the next one is not found, no fields are
  module _ (bytes : List ℕ) (are : AreBytes bytes) where
    no_from_stamp : NotFound (FieldShapes first second) bytes → (c : Contents) → FieldShapes first second bytes c → ⊥
    no_from_stamp = never_all bytes

    pub no_stamp : NotFound (StampShape first) bytes → (c : Contents) → FieldShapes first second bytes c → ⊥
    no_stamp never = no_from_stamp (not_first (StampShape first) (FromId first second) bytes never)

    module _ (after_stamp : List ℕ) (stamp : Option Stamp) (stamp_found : SpellsFront (StampShape first) bytes stamp after_stamp) where
      are_after_stamp : AreBytes after_stamp
      are_after_stamp = found_are (StampShape first) bytes after_stamp stamp are stamp_found

      no_from_id : NotFound (FromId first second) after_stamp → (c : Contents) → FieldShapes first second bytes c → ⊥
      no_from_id never = no_from_stamp (not_second (StampShape first) (FromId first second) stamp_shape_free bytes after_stamp stamp are stamp_found never)

      pub no_id : NotFound (IdShape first) after_stamp → (c : Contents) → FieldShapes first second bytes c → ⊥
      no_id never = no_from_id (not_first (IdShape first) (FromTags first second) after_stamp never)

      module _ (after_id : List ℕ) (id : Option (List ℕ)) (id_found : SpellsFront (IdShape first) after_stamp id after_id) where
        are_after_id : AreBytes after_id
        are_after_id = found_are (IdShape first) after_stamp after_id id are_after_stamp id_found

        no_from_tags : NotFound (FromTags first second) after_id → (c : Contents) → FieldShapes first second bytes c → ⊥
        no_from_tags never = no_from_id (not_second (IdShape first) (FromTags first second) id_shape_free after_stamp after_id id are_after_stamp id_found never)

        pub no_tags : NotFound (TagsShape second) after_id → (c : Contents) → FieldShapes first second bytes c → ⊥
        no_tags never = no_from_tags (not_first (TagsShape second) (FromMime first second) after_id never)

        module _ (after_tags : List ℕ) (tags : Option (List (List ℕ))) (tags_found : SpellsFront (TagsShape second) after_id tags after_tags) where
          are_after_tags : AreBytes after_tags
          are_after_tags = found_are (TagsShape second) after_id after_tags tags are_after_id tags_found

          no_from_mime : NotFound (FromMime first second) after_tags → (c : Contents) → FieldShapes first second bytes c → ⊥
          no_from_mime never = no_from_tags (not_second (TagsShape second) (FromMime first second) tags_shape_free after_id after_tags tags are_after_id tags_found never)

          pub no_mime : NotFound (MimeShape second) after_tags → (c : Contents) → FieldShapes first second bytes c → ⊥
          no_mime never = no_from_mime (not_first (MimeShape second) (FromFile first second) after_tags never)

          module _ (after_mime : List ℕ) (mime : Option (List ℕ)) (mime_found : SpellsFront (MimeShape second) after_tags mime after_mime) where
            are_after_mime : AreBytes after_mime
            are_after_mime = found_are (MimeShape second) after_tags after_mime mime are_after_tags mime_found

            no_from_file : NotFound (FromFile first second) after_mime → (c : Contents) → FieldShapes first second bytes c → ⊥
            no_from_file never = no_from_mime (not_second (MimeShape second) (FromFile first second) mime_shape_free after_tags after_mime mime are_after_tags mime_found never)

            pub no_file : NotFound (FileShape second) after_mime → (c : Contents) → FieldShapes first second bytes c → ⊥
            no_file never = no_from_file (not_first (FileShape second) (RouteShape first) after_mime never)

            module _ (after_file : List ℕ) (file : Option (List ℕ × List ℕ)) (file_found : SpellsFront (FileShape second) after_mime file after_file) where
              are_after_file : AreBytes after_file
              are_after_file = found_are (FileShape second) after_mime after_file file are_after_mime file_found

              no_from_route : NotFound (RouteShape first) after_file → (c : Contents) → FieldShapes first second bytes c → ⊥
              no_from_route never = no_from_file (not_second (FileShape second) (RouteShape first) file_shape_free after_mime after_file file are_after_mime file_found never)

              pub no_route : NotFound (RouteShape first) after_file → (c : Contents) → FieldShapes first second bytes c → ⊥
              no_route = no_from_route

              pub fields_found : (rest : List ℕ) (route : Option (List ℕ)) → SpellsFront (RouteShape first) after_file route rest → SpellsFront (FieldShapes first second) bytes (stamp, (id, (tags, (mime, (file, route))))) rest
              fields_found rest route route_found =
                  let from_file = found_pair (FileShape second) (RouteShape first) after_mime after_file rest file route file_found route_found in
                  let from_mime = found_pair (MimeShape second) (FromFile first second) after_tags after_mime rest mime (file, route) mime_found from_file in
                  let from_tags = found_pair (TagsShape second) (FromMime first second) after_id after_tags rest tags (mime, (file, route)) tags_found from_mime in
                  let from_id = found_pair (IdShape first) (FromTags first second) after_stamp after_id rest id (tags, (mime, (file, route))) id_found from_tags in
                  let from_stamp = found_pair (StampShape first) (FromId first second) bytes after_stamp rest stamp (id, (tags, (mime, (file, route)))) stamp_found from_id in
                  from_stamp
