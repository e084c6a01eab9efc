-- What a table file says, read as document 01's "Table file" has it, and what it says of TERN and BIN ("Carried tables"), listed.
use Rattle.std.specs.Prelude.{List, [], ◌∷◌, ◌++◌, map, ℕ, ℤ, pos, neg_ℤ, length}
use Rattle.lists.specs.Span.{span}
use Rattle.layout_rules.specs.Section.{element_size, Section, degree_in}
use Rattle.digit_rules.specs.Record.{parts_at, record_at, element_count}
use Rattle.reader_rules.specs.Table.{base_part, alphabet_part, input_part, leaves_in}

-- the file's length; s, t, u, v; alphabet; input digits; each leaf's word, as the input digits that it names; each leaf's weight
pub record Contents : Type 0 where
  pub size : ℕ
  pub base : List ℤ
  pub alphabet : List (List ℤ)
  pub inputs : List (List ℤ)
  pub words : List (List (List ℤ))
  pub weights : List (List ℤ)

-- the elements of a section
abbrev elements_of : Section → List (List ℤ)
elements_of part = span (record_at part) 0 (element_count part)

-- the input digits of a leaf's word
abbrev word_of : List ℕ → ℕ → List (List ℤ)
word_of file k = map (record_at (input_part file)) (span ((leaves_in file).digit k) 0 ((leaves_in file).size k))

-- a file's contents
unfoldable pub contents_of : List ℕ → Contents
contents_of file =
    record {
      size = length file;
      base = parts_at (base_part file) 0 ++ parts_at (base_part file) (element_size (degree_in file));
      alphabet = elements_of (alphabet_part file);
      inputs = elements_of (input_part file);
      words = span (word_of file) 0 (leaves_in file).leaves;
      weights = span (leaves_in file).weight 0 (leaves_in file).leaves;
    }

-- ---- the two tables, digit by digit

abbrev minus : ℕ → ℤ
minus n = neg_ℤ (pos n)

-- whole numbers as elements
abbrev wholes : List ℤ → List (List ℤ)
wholes digits = map (λ a. a ∷ pos 0 ∷ pos 0 ∷ pos 0 ∷ []) digits

-- "TERN: β = 3; alphabet 0, 1, 2, −1, −2; inputs 0, 1, 2, 3, 4, −1, −2, −3, −4; one-digit words; weight 1 from 2 up, −1 from −2 down,
-- else 0; 165 bytes"
unfoldable pub tern_listed : Contents
tern_listed =
    let inputs : List ℤ = pos 0 ∷ pos 1 ∷ pos 2 ∷ pos 3 ∷ pos 4 ∷ minus 1 ∷ minus 2 ∷ minus 3 ∷ minus 4 ∷ [] in
    record {
      size = 165;
      base = pos 0 ∷ minus 1 ∷ pos 3 ∷ pos 0 ∷ [];
      alphabet = wholes (pos 0 ∷ pos 1 ∷ pos 2 ∷ minus 1 ∷ minus 2 ∷ []);
      inputs = wholes inputs;
      words = map (λ a. wholes (a ∷ [])) inputs;
      weights = wholes (pos 0 ∷ pos 0 ∷ pos 1 ∷ pos 1 ∷ pos 1 ∷ pos 0 ∷ minus 1 ∷ minus 1 ∷ minus 1 ∷ []);
    }

-- "BIN: β = 2; alphabet 0, 1, −1; inputs 0, 1, 2, −1, −2; 2 has weight 1; 1 has weight 1 if the digit below is positive, else 0;
-- negatives mirror this; 0 has weight 0; 13 leaves, h = 2, 187 bytes. Words after 1 and −1 are two long."
unfoldable pub bin_listed : Contents
bin_listed =
    let inputs : List ℤ = pos 0 ∷ pos 1 ∷ pos 2 ∷ minus 1 ∷ minus 2 ∷ [] in
    let after : ℤ → List (List ℤ) = λ a. map (λ b. a ∷ b ∷ []) inputs in
    record {
      size = 187;
      base = pos 0 ∷ minus 1 ∷ pos 2 ∷ pos 0 ∷ [];
      alphabet = wholes (pos 0 ∷ pos 1 ∷ minus 1 ∷ []);
      inputs = wholes inputs;
      words = map wholes ((pos 0 ∷ []) ∷ (after (pos 1) ++ ((pos 2 ∷ []) ∷ (after (minus 1) ++ ((minus 2 ∷ []) ∷ [])))));
      weights =
          wholes
          ((pos 0 ∷ [])
          ++ ((pos 0 ∷ pos 1 ∷ pos 1 ∷ pos 0 ∷ pos 0 ∷ [])
          ++ ((pos 1 ∷ []) ++ ((pos 0 ∷ pos 0 ∷ pos 0 ∷ minus 1 ∷ minus 1 ∷ []) ++ (minus 1 ∷ [])))));
    }
