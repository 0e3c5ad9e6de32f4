-- What the words of `subunit-tags` ask for (docs/COMMANDS.md, "subunit-tags").
use Rattle.std.specs.Prelude.{ℕ, Bool, not, ◌||◌, ◌==◌, nat_eq, Option, Some, None, List, length, drop, codes, if◌then◌else◌}
use Rattle.std.specs.List.{flat_map, list_any, starts_with}
use Rattle.std.specs.Option.{option_to_list}
use Rattle.std.specs.Str.{bytes_eq}
use Rattle.command_words.specs.Items.{is_text}
use Rattle.filter_cli.specs.declared.tag_changes.TagChanges.{TagChanges}

-- The empty word and `-` are refused, and so is what is no text.
abbrev pub is_refused : List ℕ → Bool
is_refused word = (length word == 0) || (bytes_eq word (codes "-") || not (is_text word))

-- one of the words is refused
abbrev pub has_refused : List (List ℕ) → Bool
has_refused words = list_any is_refused words

-- the first byte of the word is a dash
abbrev pub begins_with_dash : List ℕ → Bool
begins_with_dash word = starts_with nat_eq word (codes "-")

-- the tag that a word removes: what stands behind its dash, where it begins with one
abbrev pub tag_removed : List ℕ → Option (List ℕ)
tag_removed word = if begins_with_dash word then Some (drop 1 word) else None

-- the tag that a word adds: the word itself, where it begins with no dash
abbrev pub tag_added : List ℕ → Option (List ℕ)
tag_added word = if begins_with_dash word then None else Some word

-- the tags that the words add, in their order
abbrev pub added_by : List (List ℕ) → List (List ℕ)
added_by words = flat_map (λ word. option_to_list (tag_added word)) words

-- the tags that the words remove, without their dashes, in their order
abbrev pub removed_by : List (List ℕ) → List (List ℕ)
removed_by words = flat_map (λ word. option_to_list (tag_removed word)) words

-- the change of tags that the words ask for; none where one of them is refused
abbrev pub retagging_of : List (List ℕ) → Option TagChanges
retagging_of words = if has_refused words then None else Some (record { add = added_by words; remove = removed_by words })
