-- The first word of a text.
use Rattle.std.proofs.Common.{◌≡◌, ℕ, zero, suc, ◌<◌, ◌≤◌, List, [], ◌∷◌, length, get_or, take, drop, length-drop, refl, sym, ◌∙◌, ap, arith, true, false, filter, drop-cons}
use Rattle.uv_script.specs.Words.{is_blank, pieces_of, has_bytes, words_of}

-- a blank in front changes no words
pub words_of-blank : (text : List ℕ) (i : ℕ) → i < length text → is_blank (get_or text i 0) ≡ true → words_of (drop (suc i) text) ≡ words_of (drop i text)
words_of-blank text i within blank = rw (drop-cons text i 0, blank) refl

-- where no word is begun, the first piece has no bytes
pieces_of-blank : (text : List ℕ) → (0 < length text → is_blank (get_or text 0 0) ≡ true) → pieces_of text ≡ [] ∷ drop 1 (pieces_of text)
pieces_of-blank [] blank = refl
pieces_of-blank (b ∷ bs) blank = rw (blank (omega arith)) refl

-- the bytes in front of a blank are the first piece's
pieces_of-word : (text : List ℕ) (i : ℕ) → i ≤ length text → ((k : ℕ) → k < i → is_blank (get_or text k 0) ≡ false) → (0 < length (drop i text) → is_blank (get_or (drop i text) 0 0) ≡ true) → pieces_of text ≡ take i text ∷ drop 1 (pieces_of (drop i text))
pieces_of-word text zero within word blank = pieces_of-blank text blank
pieces_of-word [] (suc i) within word blank = absurd (omega arith)
pieces_of-word (b ∷ bs) (suc i) within word blank =
    rw (word 0 (omega arith), pieces_of-word bs i (omega arith) (λ k below. word (suc k) (omega arith)) blank) refl

-- where no word is begun, the words are those of the other pieces
words_of-begun : (text : List ℕ) → (0 < length text → is_blank (get_or text 0 0) ≡ true) → filter has_bytes (drop 1 (pieces_of text)) ≡ words_of text
words_of-begun text blank = ap (filter has_bytes) (sym (pieces_of-blank text blank))

-- the bytes in front of a blank are the first word
pub words_of-word : (text : List ℕ) (i : ℕ) → 0 < i → i ≤ length text → ((k : ℕ) → k < i → is_blank (get_or text k 0) ≡ false) → (0 < length (drop i text) → is_blank (get_or (drop i text) 0 0) ≡ true) → words_of text ≡ take i text ∷ words_of (drop i text)
words_of-word text zero some within word blank = absurd (omega arith)
words_of-word [] (suc i) some within word blank = absurd (omega arith)
words_of-word (b ∷ bs) (suc i) some within word blank =
    ap (filter has_bytes) (pieces_of-word (b ∷ bs) (suc i) within word blank)
    ∙ ap (λ ws. (b ∷ take i bs) ∷ ws) (words_of-begun (drop i bs) blank)

-- the first byte of what is left
front-drop : (text : List ℕ) (i : ℕ) → i < length text → get_or (drop i text) 0 0 ≡ get_or text i 0
front-drop text i within = rw (drop-cons text i 0) refl

-- the first blank ends the word that was begun
pub words_of-until : (text : List ℕ) (i : ℕ) → i < length text → is_blank (get_or text 0 0) ≡ false → ((k : ℕ) → k < i → is_blank (get_or text k 0) ≡ false) → is_blank (get_or text i 0) ≡ true → words_of text ≡ take i text ∷ words_of (drop i text)
words_of-until text zero within begun word blank = absurd (let no : true ≡ false = sym blank ∙ begun in cc)
words_of-until text (suc i) within begun word blank =
    words_of-word text (suc i) (omega arith) (omega arith) word (λ some. ap is_blank (front-drop text (suc i) within) ∙ blank)

-- bytes without a blank are one word
pub words_of-whole : (text : List ℕ) → 0 < length text → ((k : ℕ) → k < length text → is_blank (get_or text k 0) ≡ false) → words_of text ≡ take (length text) text ∷ words_of (drop (length text) text)
words_of-whole text some word =
    words_of-word text (length text) some (omega arith) word (λ more. absurd (omega (arith, length-drop (length text) text)))
