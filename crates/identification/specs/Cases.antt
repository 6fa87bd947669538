-- What the definition gives at document 01's version cases and at the corners of identification_block.rs.
use Rattle.std.specs.Prelude.{ℕ, ◌-◌, List, [], ◌∷◌, ◌++◌, ◌≡◌, refl, length, replicate}
use Prim.Native.Char.{code}
use Prim.Native.String.{String, [] as []ˢ, ◌∷◌ as ◌∷ˢ◌}
use Rattle.base.specs.Choice.{if_lt, if_le, if_eq}
use Rattle.base.specs.Field.{le_at}
use Rattle.base.specs.Blit.{part}
use Rattle.base.specs.Checked.{refused, Verdict, fine}
use Rattle.mdf.specs.Identification.{
  drop_while,
  trimmed,
  first_part,
  past_dot,
  digits_from,
  digits,
  number,
  version_of,
  is_ascii,
  version_in,
  identified,
}

abbrev bytes : String → List ℕ
bytes []ˢ = []
bytes (c ∷ˢ cs) = code c ∷ bytes cs

-- eight bytes: v, then as many of b as are missing
abbrev filled : ℕ → List ℕ → List ℕ
filled b v = v ++ replicate (8 - length v) b

-- the verdict on a version filled with blanks, and with zeros
abbrev blanks : String → Verdict
blanks t = version_in (filled 32 (bytes t))

abbrev zeros : String → Verdict
zeros t = version_in (filled 0 (bytes t))

-- the verdict on a whole block: bytes 0..8, the version, 48 bytes
abbrev block : String → List ℕ → Verdict
block mark v = identified (bytes mark ++ v ++ replicate 48 0)

pub versions :
    -- "`4.10` is 410, accepted; `4.1` is 401, refused; `5` is 500; `4.+20` is 420."
    (blanks "4.10" ≡ fine)
    × (blanks "4.1" ≡ refused 7 0)
    × (blanks "5 " ≡ fine)
    × (blanks "4.+20" ≡ fine)
    -- 409 and 410, 65,535 and 65,536
    × (blanks "4.09" ≡ refused 7 0)
    × (blanks "4.9" ≡ refused 7 0)
    × (blanks "+4.010" ≡ fine)
    × (blanks "655.35" ≡ fine)
    × (blanks "655.36" ≡ refused 7 0)
    × (blanks "4.65535" ≡ refused 7 0)
    × (blanks "4.65536" ≡ refused 6 0)
    × (blanks "65536" ≡ refused 6 0)
    × (blanks "65535" ≡ refused 7 0)
    × (blanks "00000004" ≡ refused 7 0)
    × (blanks "00004.10" ≡ fine)
    -- parts that are no numbers; the third is not read
    × (blanks "4." ≡ refused 6 0)
    × (blanks ".10" ≡ refused 6 0)
    × (blanks "4..10" ≡ refused 6 0)
    × (blanks "4.+" ≡ refused 6 0)
    × (blanks "4.++20" ≡ refused 6 0)
    × (blanks "4.-20" ≡ refused 6 0)
    × (blanks "4.1a" ≡ refused 6 0)
    × (blanks "4. 10" ≡ refused 6 0)
    × (blanks "4 .10" ≡ refused 6 0)
    × (blanks "4/10" ≡ refused 6 0)
    × (blanks "4:10" ≡ refused 6 0)
    × (blanks "4.10.xyz" ≡ fine)
    × (blanks "5..." ≡ refused 6 0)
    -- zeros at the end go first, then white space at both ends
    × (blanks "" ≡ refused 6 0)
    × (zeros "" ≡ refused 6 0)
    × (zeros "4.10" ≡ fine)
    × (zeros "4.10  " ≡ fine)
    × (zeros "  4.10" ≡ fine)
    × (blanks "  4.10" ≡ fine)
    × (version_in (9 ∷ 11 ∷ 12 ∷ 53 ∷ 10 ∷ 13 ∷ 0 ∷ 0 ∷ []) ≡ fine)
    × (version_in (8 ∷ 53 ∷ 32 ∷ 32 ∷ 32 ∷ 32 ∷ 32 ∷ 32 ∷ []) ≡ refused 6 0)
    × (version_in (14 ∷ 53 ∷ 32 ∷ 32 ∷ 32 ∷ 32 ∷ 32 ∷ 32 ∷ []) ≡ refused 6 0)
    × (version_in (31 ∷ 53 ∷ 32 ∷ 32 ∷ 32 ∷ 32 ∷ 32 ∷ 32 ∷ []) ≡ refused 6 0)
    × (version_in (filled 32 (bytes "4.10" ++ (0 ∷ []))) ≡ refused 6 0)
    × (version_in (filled 32 (0 ∷ bytes "4.10")) ≡ refused 6 0)
    -- 127 and 128, in a part that is not read
    × (version_in (bytes "4.10.xy" ++ (127 ∷ [])) ≡ fine)
    × (version_in (bytes "4.10.xy" ++ (128 ∷ [])) ≡ refused 6 0)
unfolding drop_while trimmed first_part past_dot digits_from digits number version_of is_ascii version_in if_lt if_le if_eq
versions = (
  refl,
  refl,
  refl,
  refl,
  refl,
  refl,
  refl,
  refl,
  refl,
  refl,
  refl,
  refl,
  refl,
  refl,
  refl,
  refl,
  refl,
  refl,
  refl,
  refl,
  refl,
  refl,
  refl,
  refl,
  refl,
  refl,
  refl,
  refl,
  refl,
  refl,
  refl,
  refl,
  refl,
  refl,
  refl,
  refl,
  refl,
  refl,
  refl,
  refl,
  refl,
  refl,
)

-- 4 before 5 before 6 and 7
pub blocks :
    (block "MDF     " (bytes "4.10    ") ≡ fine)
    × (block "MDF     " (bytes "4.1     ") ≡ refused 7 0)
    × (block "MDF     " (bytes "        ") ≡ refused 6 0)
    × (block "UnFinMF " (bytes "4.10    ") ≡ refused 5 0)
    × (block "MDF    " (bytes "4.10    ") ≡ refused 4 0)
    × (identified [] ≡ refused 4 0)
unfolding drop_while trimmed first_part past_dot digits_from digits number version_of is_ascii version_in identified le_at part if_lt if_le if_eq
blocks = (refl, refl, refl, refl, refl, refl)
