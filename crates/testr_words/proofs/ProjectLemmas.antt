-- The words behind the options of a run, and the paths among the options.
use Rattle.std.proofs.Common.{◌≡◌, ◌+◌, ℕ, zero, suc, Bool, true, false, not, List, [], ◌∷◌, map, drop, None, String, refl, sym, ap, ◌∙◌}
use Rattle.std.specs.Prelude.{◌&&◌}
use Rattle.std.specs.declared.alloc.Global.{Global}
use Rattle.std.specs.List.{list_all}
use Rattle.std.specs.Option.{option_to_list}
use Rattle.std.specs.Str.{bytes_eq}
use Rattle.std.proofs.lemmas.Bool.{cond-true, cond-false}
use Rattle.std.proofs.lemmas.List.{drop-drop}
use Rattle.command_words.specs.Code.{item_meant}
use Rattle.command_words.specs.Items.{texts, value_of, values_in}
use Rattle.command_words.specs.declared.item.Item as code
use Rattle.sub_number.specs.Quotes.{is_path}
use Rattle.testr_words.specs.Words.{end_word, run_kind, before_end, path_given, file_in}
use Rattle.testr_words.specs.declared.command.Face.{Face}
use Rattle.testr_words.specs.Letters.{has_value}
use Rattle.testr_words.proofs.ValueLemmas.{all_of_each}

module _ (face : Face) (asked : Bool) (word : List ℕ) (words : List (List ℕ)) where
  -- the word ends the options
  pub ends_here : (not asked && bytes_eq word end_word) ≡ true → before_end face asked (word ∷ words) ≡ 0
  ends_here is = cond-true (not asked && bytes_eq word end_word) 0 (before_end face (not asked && has_value (run_kind face word)) words + 1) is

  -- it does not
  pub goes_on : (not asked && bytes_eq word end_word) ≡ false → before_end face asked (word ∷ words) ≡ before_end face (not asked && has_value (run_kind face word)) words + 1
  goes_on is = cond-false (not asked && bytes_eq word end_word) 0 (before_end face (not asked && has_value (run_kind face word)) words + 1) is

-- the words behind a place
pub texts-drop : (words : List (String Global)) (n : ℕ) → texts (drop n words) ≡ drop n (texts words)
texts-drop words zero = refl
texts-drop [] (suc n) = refl
texts-drop (word ∷ words) (suc n) = texts-drop words n

pub texts_behind : (given rest : List (String Global)) (place : ℕ) → rest ≡ drop place given → texts (drop 1 rest) ≡ drop (place + 1) (texts given)
texts_behind given rest place is = ap (λ l. texts (drop 1 l)) is ∙ ap texts (drop-drop 1 place given) ∙ texts-drop given (place + 1)

module _ (items : List code.Item) (key : List ℕ) (all : Bool) (is : all ≡ list_all (λ item. list_all is_path (option_to_list (value_of key (item_meant item)))) items) where
  whole : list_all is_path (values_in key (map item_meant items)) ≡ all
  whole = all_of_each is_path (λ item. option_to_list (value_of key item)) item_meant items ∙ sym is

  -- each value is a path
  pub paths_given : all ≡ true → path_given key (map item_meant items) ≡ file_in key (map item_meant items)
  paths_given each = cond-true (list_all is_path (values_in key (map item_meant items))) (file_in key (map item_meant items)) None (whole ∙ each)

  -- one is none
  pub no_path : all ≡ false → path_given key (map item_meant items) ≡ None
  no_path not_each = cond-false (list_all is_path (values_in key (map item_meant items))) (file_in key (map item_meant items)) None (whole ∙ not_each)
