-- Texts that are appended one behind another.
use Rattle.std.proofs.Common.{◌≡◌, ℕ, List, ◌++◌, refl, sym, ◌∙◌, ap, append_assoc}
use Rattle.std.specs.Prelude.{codes}
use Rattle.junit_xml.specs.Documents.{attribute, tag_line}

-- one text more
pub more : (old so_far middle new text : List ℕ) → middle ≡ old ++ so_far → new ≡ middle ++ text → new ≡ old ++ (so_far ++ text)
more old so_far middle new text first second = second ∙ ap (λ (l : List ℕ). l ++ text) first ∙ append_assoc old so_far text

-- a text whose last part is two texts
pub in_two : (front last behind end : List ℕ) → front ++ (last ++ (behind ++ end)) ≡ front ++ last ++ behind ++ end
in_two front last behind end = sym (append_assoc (front ++ last) behind end ∙ append_assoc front last (behind ++ end))

-- appends in the order of the calls
in_turn : (old a class b name c seconds d : List ℕ) → ((((((old ++ a) ++ class) ++ b) ++ name) ++ c) ++ seconds) ++ d ≡ old ++ (a ++ (class ++ (b ++ (name ++ (c ++ (seconds ++ d))))))
in_turn old a class b name c seconds d = simp append_assoc refl

-- and those of a tag with three attributes
three_values : (l t s e q k m z g n class name seconds : List ℕ) → l ++ (t ++ (s ++ k ++ e ++ class ++ q) ++ (s ++ m ++ e ++ name ++ q) ++ (s ++ z ++ e ++ seconds ++ q)) ++ g ++ n
    ≡ l ++ (t ++ (s ++ (k ++ (e ++ (class ++ (q ++ (s ++ (m ++ (e ++ (name ++ (q ++ (s ++ (z ++ (e ++ (seconds ++ (q ++ (g ++ n)))))))))))))))))
three_values l t s e q k m z g n class name seconds = simp append_assoc refl

-- the tag that begins a case, written piece by piece
pub case_begun : (class name seconds old a b c d e f new : List ℕ) → a ≡ old ++ codes "<testcase classname=\"" → b ≡ a ++ class → c ≡ b ++ codes "\" name=\"" → d ≡ c ++ name → e ≡ d ++ codes "\" time=\"" → f ≡ e ++ seconds → new ≡ f ++ codes "\">\n"
    → new ≡ old ++ tag_line (codes "testcase" ++ attribute (codes "classname") class ++ attribute (codes "name") name ++ attribute (codes "time") seconds)
case_begun class name seconds old a b c d e f new is_a is_b is_c is_d is_e is_f is =
    let written : new ≡ ((((((old ++ codes "<testcase classname=\"") ++ class) ++ codes "\" name=\"") ++ name) ++ codes "\" time=\"") ++ seconds) ++ codes "\">\n" =
    is ∙ ap (λ (l : List ℕ). l ++ codes "\">\n") (is_f ∙ ap (λ (l : List ℕ). l ++ seconds) (is_e ∙ ap (λ (l : List ℕ). l ++ codes "\" time=\"") (is_d ∙ ap (λ (l : List ℕ). l ++ name) (is_c
    ∙ ap (λ (l : List ℕ). l ++ codes "\" name=\"") (is_b ∙ ap (λ (l : List ℕ). l ++ class) is_a))))) in
    written ∙ in_turn old (codes "<testcase classname=\"") class (codes "\" name=\"") name (codes "\" time=\"") seconds (codes "\">\n")
    ∙ ap (λ (l : List ℕ). old ++ l) (sym (three_values (codes "<") (codes "testcase") (codes " ") (codes "=\"") (codes "\"") (codes "classname") (codes "name") (codes "time") (codes ">") (codes "\n") class name seconds))
