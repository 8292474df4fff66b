-- Sets of states as four words of 64 bits. State s has bit s mod 64 of word s div 64. A state is a byte (document 01).
use Rattle.std.specs.Prelude.{if◌then◌else◌, ℕ, zero, suc, ◌+◌, ◌*◌, ◌/◌, ◌%◌, ◌^◌, List, [], ◌∷◌, Bool, ◌&&◌, eqb, get_or}
use Rattle.lists.specs.Lists.{up_from, below, keep}
use Rattle.states.specs.declared.States.{States}

-- Bit k of a word.
unfoldable pub bit : (w k : ℕ) → Bool
bit w k = eqb (w / 2 ^ k % 2) 1

-- The words of a set, and the set that four words are, from word i on or from the first; a word that isn't there counts as 0.
unfoldable pub words : States → List ℕ
words set = set.w0 ∷ set.w1 ∷ set.w2 ∷ set.w3 ∷ []

unfoldable pub words_at : (ws : List ℕ) (i : ℕ) → States
words_at ws i = record { w0 = get_or ws i 0; w1 = get_or ws (i + 1) 0; w2 = get_or ws (i + 2) 0; w3 = get_or ws (i + 3) 0 }

unfoldable pub of_words : List ℕ → States
unfolding words_at
of_words ws = words_at ws 0

-- Word i of a set; there are four.
unfoldable pub word : States → ℕ → ℕ
unfolding words
word set i = get_or (words set) i 0

-- Whether a state is in a set.
unfoldable pub member : States → ℕ → Bool
unfolding bit word
member set s = bit (word set (s / 64)) (s % 64)

-- The word of so many bits in which bit k is set where k passes a test.
unfoldable pub word_of : (width : ℕ) (test : ℕ → Bool) → ℕ
word_of zero test = 0
word_of (suc width) test = (if test 0 then 1 else 0) + word_of width (λ k. test (suc k)) * 2

-- The set of the states that pass a test.
unfoldable pub set_of : (test : ℕ → Bool) → States
unfolding word_of
set_of test = record {
  w0 = word_of 64 (λ k. test k);
  w1 = word_of 64 (λ k. test (64 + k));
  w2 = word_of 64 (λ k. test (128 + k));
  w3 = word_of 64 (λ k. test (192 + k));
}

-- The states of a set, in order.
unfoldable pub members : States → List ℕ
unfolding member keep up_from
members set = keep (member set) (below 256)

-- Whether two sets have the same states: whether their words are the same.
unfoldable pub same_states : States → States → Bool
same_states a b = eqb a.w0 b.w0 && eqb a.w1 b.w1 && eqb a.w2 b.w2 && eqb a.w3 b.w3

-- The first of the states; 0 if there is none.
unfoldable pub least_of : List ℕ → ℕ
least_of [] = 0
least_of (s ∷ rest) = s
