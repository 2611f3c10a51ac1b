-- What clap answers is what `sorted` says.
use Rattle.std.proofs.Common.{◌≡◌, ◌∙◌, ap, List, [], ◌∷◌, Option, Some, None, Bool, ◌&&◌, length, map, option_map, refl, inl, inr, true, false, true≢false, sym}
use Rattle.clap.specs.Walk.{Row}
use Rattle.clap.specs.Words.{App, HasKind, IsAmong, Kinds, Text, all_of, fault_of, first_of, first_value, kind_of, matched_of, matches_of, raw_values, rows_of}
use Rattle.clap.specs.declared.parser.matches.Found.{Found}
use Rattle.clap.proofs.WalkLemmas.{first_value-rows, raw_values-rows}
use Rattle.std.specs.Borrow.{Bor}
use Rattle.std.specs.List.{list_all}
use Rattle.std.specs.Prelude.{is_some, nat_le, slice_get, unwrap_or}
use Rattle.cmm_command.specs.FirstWords.{first_word_in, first_word_of}
use Rattle.clap.specs.declared.error.Error.{Error}
use Rattle.clap.specs.declared.error.kind.ErrorKind.{ErrorKind}
use Rattle.clap.specs.declared.error.kind.ErrorKind.TheVariants.{OutOfMemory}
use Rattle.cmm_command.specs.Reading.{file_names, sorted, unless_faulty}

-- the words are taken
pub sorted-taken : (app : App) (words : List Text) (rows : List Row) → fault_of app words ≡ [] → rows ≡ matches_of app words → sorted app words ≡ Some rows
unfolding sorted
sorted-taken app words rows free is = ap (λ (kinds : Kinds). unless_faulty kinds (matches_of app words)) free ∙ ap Some (sym is)

refused_by : (app : App) (words : List Text) (k : ErrorKind) (kinds : Kinds) → fault_of app words ≡ kinds → IsAmong k kinds → sorted app words ≡ None
unfolding sorted
refused_by app words k [] is among = absurd among
refused_by app words k (x ∷ xs) is among = ap (λ (kinds : Kinds). unless_faulty kinds (matches_of app words)) is

-- the words are refused
pub sorted-refused : (app : App) (words : List Text) (e : Error) → HasKind (fault_of app words) e → (kind_of e ≡ OutOfMemory → ⊥) → sorted app words ≡ None
sorted-refused app words e (inl memory) other = absurd (other memory)
sorted-refused app words e (inr among) other = refused_by app words (kind_of e) (fault_of app words) refl among

-- the first value of an argument
pub first-is : (f : Found) (id : Text) (o : Option Text) → o ≡ first_value f id → first_of id (rows_of f) ≡ o
first-is f id o is = sym (is ∙ first_value-rows f id)

-- all its values
pub all-are : (f : Found) (id : Text) (o : Option (List Text)) → o ≡ option_map raw_values (matched_of f id) → all_of id (rows_of f) ≡ o
all-are f id o is = sym (is ∙ raw_values-rows f id)

-- a test on what is behind references
pub list_all-behind : (p : Text → Bool) (texts : List (Bor Text)) → list_all p (map (λ t. t.now) texts) ≡ list_all (λ t. p t.now) texts
list_all-behind p [] = refl
list_all-behind p (t ∷ ts) = ap (λ b. p t.now && b) (list_all-behind p ts)

-- the names of files, behind references
pub file_names-kept : (texts names : List (Bor Text)) → list_all (λ t. nat_le (length t.now) 4095) texts ≡ true → names ≡ texts
    → file_names (map (λ t. t.now) texts) ≡ Some (map (λ t. t.now) names)
file_names-kept texts names short same = rw (list_all-behind (λ t. nat_le (length t) 4095) texts, short, same) refl

pub file_names-refused : (texts : List (Bor Text)) → list_all (λ t. nat_le (length t.now) 4095) texts ≡ false → file_names (map (λ t. t.now) texts) ≡ None
file_names-refused texts long = rw (list_all-behind (λ t. nat_le (length t) 4095) texts, long) refl

-- the first word of words that are seen by `view`
pub first_word-some : {A : Type 0} (view : A → Text) (words : List A) (w : A) → Some w ≡ slice_get words 0 → first_word_in (map view words) ≡ first_word_of (view w)
first_word-some view [] w is = absurd (true≢false (ap is_some is))
first_word-some view (x ∷ xs) w is = ap (λ o. first_word_of (view (unwrap_or o w))) (sym is)

pub first_word-none : {A : Type 0} (view : A → Text) (words : List A) → None ≡ slice_get words 0 → first_word_in (map view words) ≡ None
first_word-none view [] is = refl
first_word-none view (x ∷ xs) is = absurd (true≢false (ap is_some (sym is)))
