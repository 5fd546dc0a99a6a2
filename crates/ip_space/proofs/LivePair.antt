-- What reading the live mapping and prefix comes to.
--     no_front, bad_numbers, no_length      bytes that are no mapping of the layout.      parsed, parse_failed      what parsing them gives
--     whole_read      one read gives the bytes of a file.      measured      its length, where an absent one has none
--     rows_length, parse_wants, read_refused, mapping_refused      where memory is wanted the length is right
--     held_later, length_later, mapping_later, own_later, prefix_later      over calls that change no file.      not_filled, pair_found, pair_refused      the tests behind the rows
use Rattle.std.proofs.Common.{◌≡◌, ◌≢◌, ℕ, ◌+◌, ◌*◌, List, [], ◌∷◌, ◌++◌, length, take, drop, refl, sym, ◌∙◌, ap, subst, arith, map}
use Rattle.std.specs.Prelude.{Option, Some, None, Ok, Err, option_map, flat_map, IsSomeAnd}
use Rattle.std.specs.Option.{unwrap_or}
use Rattle.std.proofs.lemmas.List.{take_all, take-append-le}
use Rattle.ip_ground.specs.declared.names.FileName.{FileName}
use Rattle.ip_ground.specs.declared.names.FileName.TheVariants.{Mapping, Prefix}
use Rattle.ip_ground.specs.Contents.{Content, Image, bytes_of, size_of}
use Rattle.ip_ground.specs.Told.{Told, IsForeign, NoFile, ChangesOnly}
use Rattle.ip_ground.specs.Calls.{Reads}
use Rattle.ip_spec.specs.Path.{Bytes}
use Rattle.ip_spec.specs.Record.{IsU64}
use Rattle.ip_image.specs.declared.layout.Layout.{Layout}
use Rattle.ip_image.specs.declared.run.Row.{Row}
use Rattle.ip_image.specs.Virtual.{run_of, row_bytes, total, mapping_file, RowsFit}
use Rattle.ip_image.specs.Standing.{MappingIs, Generation}
use Rattle.ip_mapping.specs.Parsing.{Fields, IsForm, IsMapping, IsBadAt, Begins, head_bytes, head_of}
use Rattle.ip_mapping.specs.Parsing as parsing
use Rattle.ip_mapping.specs.declared.head.Head.{Head}
use Rattle.ip_mapping.proofs.Numbers.{length_rows}
use Rattle.ip_mapping.proofs.Outcomes.{IsSmall, file_begins, its_head}
use Rattle.ip_space.specs.Pair.{PrefixFits, IsBadPair, no_mapping, no_row, no_sum, no_prefix, HasNumbers, HasRowsLength, FindsMapping, FindsPrefix, FindsPair, FindsSpace}
use Rattle.ip_space.specs.declared.fault.SpaceFault.{SpaceFault}
use Rattle.ip_space.specs.declared.fault.SpaceFault.TheVariants.{Ground, Damaged, Memory}

sized : (head : Head) (rest : Bytes) → length (head_bytes head ++ rest) ≡ 32 + length rest
sized head rest = omega arith

file_size : (m : Fields) → length (mapping_file m.horizon m.end m.rows) ≡ 32 + 24 * length m.rows
file_size m =
    let rows = length_rows m.rows in
    let all = sized (head_of m) (flat_map row_bytes m.rows) in
    ap length (file_begins m) ∙ omega (arith, rows, all)

abbrev pub IsSmallLayout : Layout → Type 0
IsSmallLayout s = IsU64 s.horizon × IsU64 s.end × IsU64 s.rows

present_file : (content : Content) (m : Fields) → bytes_of content ≡ mapping_file m.horizon m.end m.rows → content ≡ Some (mapping_file m.horizon m.end m.rows)
present_file None m is = let l = ap length is in let all = file_size m in absurd (omega (arith, l, all))
present_file (Some bytes) m is = ap Some is

pub parsed_horizon : (s : Layout) (bytes : Bytes) (head : Head) → IsSmall head → Begins bytes head → HasNumbers s head → (m : Fields) → IsForm bytes m → m.horizon ≡ s.horizon
parsed_horizon s bytes head few begins right m form = sym (ap (λ (h : Head). h.horizon) (its_head bytes head m few.0 few.1 few.2 begins form)) ∙ right.horizon

module _ (image : Image) (s : Layout) (bytes : Bytes) (here : bytes_of (image (Mapping s.live)) ≡ bytes) where
  module _ (rows : List Row) (is : MappingIs image s rows) where
    fields : Fields
    fields = record { horizon = s.horizon; end = is.end; rows = rows }

    is_file : bytes ≡ mapping_file s.horizon is.end rows
    is_file = sym here ∙ ap bytes_of is.file

    is_form : IsSmallLayout s → IsForm bytes (record { horizon = s.horizon; end = is.end; rows = rows })
    is_form small =
        let inside = is.inside in
        let high = small.1 in
        let count = is.count in
        record { file = is_file; horizon = small.0; end = omega (arith, inside, high); count = subst IsU64 (sym count) small.2; numbers = is.numbers }

  pub no_front : ((head : Head) → ¬ (Begins bytes head)) → IsBadPair image s (Mapping s.live) 0
  no_front none = no_mapping (λ rows is.
      let m : Fields = record { horizon = s.horizon; end = is.end; rows = rows } in
      none (head_of m) (flat_map row_bytes rows, is_file rows is ∙ file_begins m))

  pub bad_numbers : IsSmallLayout s → (head : Head) → IsSmall head → Begins bytes head → ¬ (HasNumbers s head) → IsBadPair image s (Mapping s.live) 0
  bad_numbers small head few begins wrong = no_mapping (λ rows is.
      let m : Fields = record { horizon = s.horizon; end = is.end; rows = rows } in
      let same : head ≡ head_of m = its_head bytes head m few.0 few.1 few.2 begins (is_form rows is small) in
      wrong (subst (HasNumbers s) (sym same) (record { horizon = refl; rows = is.count; above = is.above; inside = is.inside })))

  module _ (head : Head) (few : IsSmall head) (begins : Begins bytes head) (right : HasNumbers s head) (m : Fields) (form : IsForm bytes m) where
    same_head : head ≡ head_of m
    same_head = its_head bytes head m few.0 few.1 few.2 begins form

    same_horizon : m.horizon ≡ s.horizon
    same_horizon = parsed_horizon s bytes head few begins right m form

    mapping_is : MappingIs image s m.rows
    mapping_is =
        let numbers = subst (HasNumbers s) same_head right in
        record {
          end = m.end;
          file = present_file (image (Mapping s.live)) m (here ∙ form.file) ∙ ap (λ (h : ℕ). Some (mapping_file h m.end m.rows)) same_horizon;
          count = numbers.rows;
          numbers = form.numbers;
          above = numbers.above;
          inside = numbers.inside;
        }

  pub parsed : (head : Head) → IsSmall head → Begins bytes head → HasNumbers s head → (m : Fields) → IsMapping bytes m → MappingIs image s m.rows × RowsFit s.horizon m.rows
  parsed head few begins right m is = (
    mapping_is head few begins right m is.form,
    subst (λ (h : ℕ). RowsFit h m.rows) (same_horizon head few begins right m is.form) is.fits,
  )

  pub parse_failed : IsSmallLayout s → (head : Head) → IsSmall head → Begins bytes head → HasNumbers s head → (at : ℕ) → IsBadAt bytes at → IsBadPair image s (Mapping s.live) at
  parse_failed small head few begins right at (parsing.no_form none) =
      no_mapping (λ rows is. none (record { horizon = s.horizon; end = is.end; rows = rows }) (is_form rows is small))
  parse_failed small head few begins right at (parsing.no_row m before after row form rows fits bad) =
      let same = same_horizon head few begins right m form in
      no_row before after row (subst (MappingIs image s) rows (mapping_is head few begins right m form))
      (subst (λ (h : ℕ). RowsFit h before) same fits) (λ f. bad (subst (λ (h : ℕ). RowsFit h (before ++ row ∷ [])) (sym same) f))

pub no_length : (image : Image) (s : Layout) (size : ℕ) → size_of (image (Mapping s.live)) ≡ size → ¬ (size ≡ 32 + 24 * s.rows) → IsBadPair image s (Mapping s.live) 0
no_length image s size is other = no_mapping (λ rows found.
    let m : Fields = record { horizon = s.horizon; end = found.end; rows = rows } in
    let count = found.count in
    other (sym is ∙ ap size_of found.file ∙ file_size m ∙ ap (λ (n : ℕ). 32 + 24 * n) count))

-- a mapping has the length of its rows
pub rows_length : (image : Image) (s : Layout) (rows : List Row) → MappingIs image s rows → HasRowsLength image s
rows_length image s rows found =
    let m : Fields = record { horizon = s.horizon; end = found.end; rows = rows } in
    let count = found.count in
    ap size_of found.file ∙ file_size m ∙ ap (λ (n : ℕ). 32 + 24 * n) count

pub parse_wants : (image : Image) (s : Layout) (bytes : Bytes) → bytes_of (image (Mapping s.live)) ≡ bytes → (head : Head) → IsSmall head → Begins bytes head → HasNumbers s head → (m : Fields) × IsForm bytes m → HasRowsLength image s
parse_wants image s bytes here head few begins right m = rows_length image s m.0.rows (mapping_is image s bytes here head few begins right m.0 m.1)

-- what is no mapping yet has the length of one
pub read_refused : (image : Image) (s : Layout) (fault : SpaceFault) → ((file : FileName) (at : ℕ) → fault ≡ Damaged file at → ⊥) → HasRowsLength image s → FindsMapping image s (Err fault)
read_refused image s Ground none length = tt
read_refused image s (Damaged file at) none length = absurd (none file at refl)
read_refused image s Memory none length = length

pub mapping_refused : (image : Image) (s : Layout) (fault : SpaceFault) → FindsMapping image s (Err fault) → FindsPair image s (Err fault)
mapping_refused image s Ground found = tt
mapping_refused image s (Damaged file at) found = found
mapping_refused image s Memory found = found

pub measured : (content : Content) (found : Option ℕ) → found ≡ option_map length content → size_of content ≡ unwrap_or found 0
measured None found is = sym (ap (λ (f : Option ℕ). unwrap_or f 0) is)
measured (Some bytes) found is = sym (ap (λ (f : Option ℕ). unwrap_or f 0) is)

-- what a read wrote over a whole buffer
pub written_whole : (n size : ℕ) (out items : List ℕ) → length out ≡ size → take n (take size (out ++ drop (length out) items)) ≡ take n out
written_whole n size out items long =
    ap (take n) (take-append-le size out (drop (length out) items) (omega (arith, long)) ∙ take_all size out (omega (arith, long)))

pub whole_read : (file : FileName) (out filled : List ℕ) (n size : ℕ) (a b : Told) → ¬ IsForeign a file → size_of (a.held file) ≡ size → length out ≡ size → Reads file 0 out filled (Ok n) a b
    → take n filled ≡ bytes_of (b.held file)
whole_read file out filled n size a b own is room reads =
    let same : b.held file ≡ a.held file = (reads.only.others file (λ none. none)).held own in
    let long : size_of (b.held file) ≡ size = ap size_of same ∙ is in
    let count = reads.count in
    reads.bytes ∙ take_all n (bytes_of (b.held file)) (omega (arith, count, long, room))

-- ---- over calls that change no file

module _ (a b : Told) (only : ChangesOnly NoFile a b) (s : Layout) where
  pub held_later : (file : FileName) → ¬ IsForeign a file → b.held file ≡ a.held file
  held_later file own = (only.others file (λ none. none)).held own

  pub own_later : (file : FileName) → ¬ IsForeign a file → ¬ IsForeign b file
  own_later file own = (only.others file (λ none. none)).own own

  pub length_later : ¬ IsForeign a (Mapping s.live) → HasRowsLength a.held s → HasRowsLength b.held s
  length_later own length = ap size_of (held_later (Mapping s.live) own) ∙ length

  pub mapping_later : ¬ IsForeign a (Mapping s.live) → (rows : List Row) → MappingIs a.held s rows → MappingIs b.held s rows
  mapping_later own rows is = record {
    end = is.end;
    file = held_later (Mapping s.live) own ∙ is.file;
    count = is.count;
    numbers = is.numbers;
    above = is.above;
    inside = is.inside;
  }

  pub prefix_later : ¬ IsForeign a (Prefix s.live) → PrefixFits b.held s → PrefixFits a.held s
  prefix_later own fits = subst (λ (content : Content). IsSomeAnd content (λ bytes. length bytes ≡ s.prefix_len)) (held_later (Prefix s.live) own) fits

-- ---- behind the rows

module _ (image : Image) (s : Layout) (rows : List Row) (is : MappingIs image s rows) (fits : RowsFit s.horizon rows) where
  pub not_filled : ¬ (total (map run_of rows) ≡ s.prefix_len) → IsBadPair image s (Mapping s.live) 0
  not_filled other = no_sum rows is fits other

  module _ (sum : total (map run_of rows) ≡ s.prefix_len) where
    pub pair_found : s.live ≢ 0 → PrefixFits image s → Generation image s rows
    pair_found live prefix = record { file = λ _. is; fits = fits; sum = sum; prefix = λ _. prefix; none = λ none. absurd (live none) }

    pub pair_refused : (fault : SpaceFault) → FindsPrefix image s (Err fault) → FindsPair image s (Err fault)
    pair_refused Ground found = tt
    pair_refused (Damaged file at) found = subst (λ (f : FileName). IsBadPair image s f at) (sym found.0) (subst (IsBadPair image s (Prefix s.live)) (sym found.1) (no_prefix rows is fits sum found.2))
    pair_refused Memory found = absurd found

pub space_refused : (image : Image) (s : Layout) (fault : SpaceFault) → FindsPair image s (Err fault) → FindsSpace image s (Err fault)
space_refused image s Ground found = tt
space_refused image s (Damaged file at) found = found
space_refused image s Memory found = found
