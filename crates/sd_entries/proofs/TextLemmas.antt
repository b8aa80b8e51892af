-- The forms in which the program writes the names of sets and lists of numbers.
use Rattle.std.proofs.Common.{◌≡◌, ℕ, zero, suc, ◌-◌, ◌+◌, ◌/◌, ◌%◌, ◌<◌, ◌≤◌, List, [], ◌∷◌, ◌++◌, length, get_or, drop, sym, ap, ◌∙◌, append_assoc, arith}
use Rattle.std.specs.Prelude.{codes, option_map, replicate, unwrap_or, slice_get}
use Rattle.std.proofs.lemmas.List.{append-nil}
use Rattle.std.proofs.lemmas.Fmt.{decimal_digit, decimal_step}
use Rattle.std.specs.Fmt.{decimal}
use Rattle.std.specs.List.{flat_map}
use Rattle.sd_types.specs.declared.works.Work.{Work}
use Rattle.sd_machine.specs.Texts.{set_name, numbers_text}

pub set_name_past : (w : Work) (p : ℕ) → 0 < p → set_name w p ≡ unwrap_or (option_map (λ d. d.0.text.items) (slice_get w.sets (p - 1))) []
set_name_past w zero some = absurd (omega arith)
set_name_past w (suc p) some =
    let same : p ≡ suc p - 1 = omega arith in
    ap (λ k. unwrap_or (option_map (λ d. d.0.text.items) (slice_get w.sets k)) []) same

numbers_by_commas : (n : ℕ) (ns : List ℕ) → numbers_text (n ∷ ns) ≡ decimal n ++ flat_map (λ m. 44 ∷ decimal m) ns
numbers_by_commas n [] = sym (append-nil (decimal n))
numbers_by_commas n (m ∷ ms) = append_assoc (decimal n) (codes ",") (numbers_text (m ∷ ms)) ∙ ap (λ (text : List ℕ). decimal n ++ (codes "," ++ text)) (numbers_by_commas m ms)

-- numbers joined by commas are the first, and the others with a comma before each
pub numbers_from_first : (ns : List ℕ) → 1 ≤ length ns → numbers_text ns ≡ decimal (get_or ns 0 0) ++ flat_map (λ m. 44 ∷ decimal m) (drop 1 ns)
numbers_from_first [] some = absurd (omega arith)
numbers_from_first (n ∷ ns) some = numbers_by_commas n ns

-- ---- digits one after another

-- a number of one digit is its last digit
pub last_alone : (n : ℕ) → n < 10 → decimal n ≡ (48 + n % 10) ∷ []
last_alone n small = decimal_digit n small ∙ ap (λ d. (48 + d) ∷ []) (let same : n ≡ n % 10 = omega arith in same)

-- behind the digits before it, the last digit of a number is the number's text
pub last_behind : (text behind : List ℕ) (n : ℕ) → 10 ≤ n → n < 256 → behind ≡ text ++ decimal (n / 10) → behind ++ (48 + n % 10) ∷ [] ≡ text ++ decimal n
last_behind text behind n some small is =
    rw is (append_assoc text (decimal (n / 10)) ((48 + n % 10) ∷ []) ∙ ap (λ (ds : List ℕ). text ++ ds) (sym (decimal_step n some (omega arith))))

-- ---- zeros

zero_digit : decimal 0 ≡ 48 ∷ []
zero_digit = decimal_digit 0 (omega arith)

zeros_more : (count : ℕ) → flat_map (λ m. 44 ∷ decimal m) (replicate (suc count) 0) ≡ flat_map (λ m. 44 ∷ decimal m) (replicate count 0) ++ 44 ∷ 48 ∷ []
zeros_more zero = ap (λ (ds : List ℕ). (44 ∷ ds) ++ []) zero_digit
zeros_more (suc count) =
    ap (λ (text : List ℕ). (44 ∷ decimal 0) ++ text) (zeros_more count)
    ∙ sym (append_assoc (44 ∷ decimal 0) (flat_map (λ m. 44 ∷ decimal m) (replicate count 0)) (44 ∷ 48 ∷ []))

-- one more zero behind so many with a comma before each
pub zeros_on : (count : ℕ) → flat_map (λ m. 44 ∷ decimal m) (replicate (count + 1) 0) ≡ flat_map (λ m. 44 ∷ decimal m) (replicate count 0) ++ 44 ∷ 48 ∷ []
zeros_on count =
    let next : count + 1 ≡ suc count = omega arith in
    ap (λ k. flat_map (λ m. 44 ∷ decimal m) (replicate k 0)) next ∙ zeros_more count

zeros_before : (count : ℕ) → numbers_text (replicate (suc count) 0) ≡ 48 ∷ flat_map (λ m. 44 ∷ decimal m) (replicate count 0)
zeros_before count = numbers_by_commas 0 (replicate count 0) ∙ ap (λ (ds : List ℕ). ds ++ flat_map (λ m. 44 ∷ decimal m) (replicate count 0)) zero_digit

-- zeros joined by commas are a zero, and the others with a comma before each
pub zeros_from_first : (count : ℕ) → 1 ≤ count → numbers_text (replicate count 0) ≡ 48 ∷ flat_map (λ m. 44 ∷ decimal m) (replicate (count - 1) 0)
zeros_from_first count some =
    let is : count ≡ suc (count - 1) = omega (arith, some) in
    ap (λ k. numbers_text (replicate k 0)) is ∙ zeros_before (count - 1)
