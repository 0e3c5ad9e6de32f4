-- What is read and is too long is refused.
use Rattle.std.proofs.Common.{◌≡◌, ◌⊎◌, inl, inr, ℕ, ◌<◌, ◌≤◌, Option, None, Some, IsSomeAnd, List, length, ◌++◌, append-nil, ap, ◌∙◌, arith}
use Rattle.std.proofs.lemmas.Bool.{cases_lt}
use Rattle.std.specs.Io.KnownBytes.{Consumes, IsAtEnd}
use Rattle.edge_io.specs.Limits.{most_bytes}
use Rattle.filter_cli.specs.Outside.{FilterOutside}
use Rattle.filter_cli.specs.Pipe.{Pipe}
use Rattle.filter_cli.specs.Promises.{IsDone, feed_of, FilterPromises}
use Rattle.filter_cli.specs.Streams.{text_unread}
use Rattle.filter_cli.specs.Words.{asked_by_words, input_file_in}

-- too many bytes were not all read
too_many : (a b : Option (List ℕ)) (read : List ℕ) → Consumes a b read → IsAtEnd b → length read ≤ most_bytes → IsSomeAnd a (λ bytes. most_bytes < length bytes) → ⊥
too_many None b read took ends size long = long
too_many (Some bytes) None read took ends size long = took
too_many (Some bytes) (Some rest) read took ends size long =
    let same : bytes ≡ read = took ∙ ap (λ (l : List ℕ). read ++ l) ends ∙ append-nil read in
    omega (arith, ap length same, size, long)

-- so nothing was done that reads them
not_done : (words : List (List ℕ)) (unread : Option (List ℕ)) (a b : Pipe) (answer : ℕ) → unread ≡ None → IsDone words unread a b answer → IsSomeAnd a.input.told (λ bytes. most_bytes < length bytes) → ⊥
not_done words None a b answer reads done long = too_many a.input.told b.input.told done.bytes done.moved.took done.at_end done.size long
not_done words (Some text) a b answer reads done long = cc

pub long_refused : (words : List (List ℕ)) (before after : FilterOutside) (answer : ℕ) → FilterPromises words before after answer → (asked_by_words words ≡ None → ⊥) → text_unread words ≡ None → IsSomeAnd (feed_of (input_file_in words) 0 before).input.told (λ bytes. most_bytes < length bytes) → (answer ≡ 3) ⊎ ((answer ≡ 4) ⊎ (answer ≡ 5))
long_refused words before after answer promises asks reads long = elim (cases_lt answer 2) [
  | inl few ↦ absurd (not_done words (text_unread words) (feed_of (input_file_in words) 0 before) (feed_of (input_file_in words) promises.place after) answer reads (promises.feeds.done (omega (arith, few))) long)
  | inr some ↦ elim (cases_lt answer 3) [
    | inl two ↦ absurd (asks (promises.usage (omega (arith, some, two))))
    | inr three ↦ elim (cases_lt answer 4) [
      | inl less ↦ inl (omega (arith, three, less))
      | inr four ↦ elim (cases_lt answer 5) [
        | inl less ↦ inr (inl (omega (arith, four, less)))
        | inr five ↦ inr (inr (omega (arith, five, promises.most)))
      ]
    ]
  ]
]
