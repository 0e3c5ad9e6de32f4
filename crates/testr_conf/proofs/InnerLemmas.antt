-- The lines right below a setting.
use Rattle.std.proofs.Common.{◌≡◌, ◌+◌, ◌&&◌, ℕ, suc, Bool, true, false, Option, Some, cond, List, [], ◌∷◌, ◌++◌, take, map, refl, sym, ap, ◌∙◌, arith, append_assoc}
use Rattle.std.specs.List.{flat_map, take_while, prefix_len}
use Rattle.std.specs.List.{list_any, after_first}
use Rattle.std.proofs.lemmas.Bool.{true≢false}
use Rattle.sub_number.specs.Lines.{has_bytes}
use Rattle.testr_conf.specs.White.{trimmed}
use Rattle.testr_conf.specs.Lines.{ConfLine, bad, setting, section, more, skipped, is_sign, is_deeper, setting_key, setting_line, ended_line_of, placed_line, depth_behind, placed_lines}
use Rattle.testr_conf.specs.Settings.{is_inner, continued_text}

one_more : (n : ℕ) → 1 + n ≡ suc n
one_more n = omega arith

-- an inner line adds what it does
inner : (line : ConfLine) (lines : List ConfLine) → is_inner line ≡ true → flat_map continued_text (take_while is_inner (line ∷ lines)) ≡ continued_text line ++ flat_map continued_text (take_while is_inner lines)
inner line lines is =
    ap (λ b. flat_map continued_text (take (cond b (1 + prefix_len is_inner lines) 0) (line ∷ lines))) is
    ∙ ap (λ n. flat_map continued_text (take n (line ∷ lines))) (one_more (prefix_len is_inner lines))

-- a setting is no inner line
setting_outer : (line : List ℕ) → is_inner (setting_line line) ≡ false
setting_outer line = by (list_any is_sign line && has_bytes (setting_key line))
  where
    by : (b : Bool) → is_inner (cond b (setting (setting_key line) (trimmed (after_first is_sign line))) bad) ≡ false
    by true = refl
    by false = refl

-- behind an inner line the setting above the next line is the same
inner_depth : (above : Option ℕ) (line : ConfLine) → is_inner (placed_line above line) ≡ true → depth_behind above line ≡ above
inner_depth above (section name) is = absurd (true≢false (sym is))
inner_depth above (setting key own) is = absurd (true≢false (sym is))
inner_depth above skipped is = refl
inner_depth above bad is = absurd (true≢false (sym is))
inner_depth above (more depth text line) is = by (is_deeper depth above) is
  where
    by : (b : Bool) → is_inner (cond b (more depth text line) (setting_line line)) ≡ true → cond b above (Some depth) ≡ above
    by true is = refl
    by false is = absurd (true≢false (sym is ∙ setting_outer line))

module _ (all value : List ℕ) (above : Option ℕ) (lines rest : List (List ℕ)) (line : List ℕ) (kind : ConfLine)
    (read : all ≡ value ++ flat_map continued_text (take_while is_inner (placed_lines above (map ended_line_of lines)))) (first : lines ≡ line ∷ rest) (kind_is : kind ≡ placed_line above (ended_line_of line)) where
  split : (k : ConfLine) → kind ≡ k → is_inner k ≡ true → all ≡ value ++ (continued_text k ++ flat_map continued_text (take_while is_inner (placed_lines above (map ended_line_of rest))))
  split k is yes' =
      let same : depth_behind above (ended_line_of line) ≡ above = inner_depth above (ended_line_of line) (ap is_inner (sym kind_is ∙ is) ∙ yes') in
      read ∙ ap (λ l. value ++ flat_map continued_text (take_while is_inner (placed_lines above (map ended_line_of l)))) first
      ∙ ap (λ x. value ++ flat_map continued_text (take_while is_inner (x ∷ placed_lines (depth_behind above (ended_line_of line)) (map ended_line_of rest)))) (sym kind_is ∙ is)
      ∙ ap (λ d. value ++ flat_map continued_text (take_while is_inner (k ∷ placed_lines d (map ended_line_of rest)))) same
      ∙ ap (λ t. value ++ t) (inner k (placed_lines above (map ended_line_of rest)) yes')

  pub more_read : (depth : ℕ) (text whole pushed new : List ℕ) → kind ≡ more depth text whole → pushed ≡ value ++ 10 ∷ [] → new ≡ pushed ++ text
      → all ≡ new ++ flat_map continued_text (take_while is_inner (placed_lines above (map ended_line_of rest)))
  more_read depth text whole pushed new is pushed_is new_is =
      split (more depth text whole) is refl
      ∙ sym (append_assoc value (10 ∷ text) (flat_map continued_text (take_while is_inner (placed_lines above (map ended_line_of rest)))))
      ∙ ap (λ t. t ++ flat_map continued_text (take_while is_inner (placed_lines above (map ended_line_of rest))))
      (sym (append_assoc value (10 ∷ []) text) ∙ ap (λ t. t ++ text) (sym pushed_is) ∙ sym new_is)

  pub skipped_read : kind ≡ skipped → all ≡ value ++ flat_map continued_text (take_while is_inner (placed_lines above (map ended_line_of rest)))
  skipped_read is = split skipped is refl
