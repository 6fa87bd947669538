-- Document 02, request 2, at a small file: entries in table order, the first refused one, the borders of 25.
use Rattle.std.specs.Prelude.{ℕ, List, [], ◌∷◌, ◌≡◌, refl, replicate}
use Rattle.file.specs.Plot.{Entry, Plotted, served, stopped, plotted}
use Rattle.base.specs.Blit as base_blit
use Rattle.base.specs.Choice as base_choice
use Rattle.base.specs.Field as base_field
use Rattle.mdf.specs.Block as mdf_block
use Rattle.mdf.specs.Chain as mdf_chain
use Rattle.mdf.specs.Group as mdf_group
use Rattle.mdf.specs.Identification as mdf_identification
use Rattle.mdf.specs.Name as mdf_name
use Rattle.mdf.specs.Records as mdf_records
use Rattle.mdf.specs.Walk as mdf_walk
use Rattle.file.specs.Form as file_form
use Rattle.file.specs.Opened as file_opened
use Rattle.file.specs.Plot as file_plot
use Rattle.file.specs.Range as file_range
use Rattle.file_cases.specs.Forms.{two, bare}

-- column, first record, count, place
abbrev entry : ℕ → ℕ → ℕ → ℕ → Entry
entry k first count place = record { column = k; first = first; count = count; place = place }

abbrev all : List ℕ → Plotted
all d = record { outcome = served; destination = d }

abbrev ends : ℕ → ℕ → ℕ → List ℕ → Plotted
ends number place i d = record { outcome = stopped number place i; destination = d }

-- six bytes of 7
abbrev sevens : List ℕ
sevens = 7 ∷ 7 ∷ 7 ∷ 7 ∷ 7 ∷ 7 ∷ []

abbrev pub Plots : Type 0
Plots =
    -- record 2, then record 0 over its end: the later entry wins
    (plotted two (entry 0 2 1 0 ∷ entry 0 0 1 2 ∷ []) sevens ≡ all (9 ∷ 10 ∷ 1 ∷ 2 ∷ 3 ∷ 4 ∷ []))
    -- entry 1 is refused: bytes of entry 0 stand, entry 2 is not served
    × (plotted two (entry 0 0 1 0 ∷ entry 1 0 0 0 ∷ entry 0 1 1 2 ∷ []) sevens ≡ ends 22 0 1 (1 ∷ 2 ∷ 3 ∷ 4 ∷ 7 ∷ 7 ∷ []))
    × (plotted two (entry 0 0 1 0 ∷ entry 0 3 1 0 ∷ []) sevens ≡ ends 23 0 1 (1 ∷ 2 ∷ 3 ∷ 4 ∷ 7 ∷ 7 ∷ []))
    -- 25: up to the destination's end, past it, far past it; after 22 and 23
    × (plotted two (entry 0 1 1 2 ∷ []) sevens ≡ all (7 ∷ 7 ∷ 5 ∷ 6 ∷ 7 ∷ 8 ∷ []))
    × (plotted two (entry 0 1 1 3 ∷ []) sevens ≡ ends 25 0 0 sevens)
    × (plotted two (entry 0 1 1 18446744073709551615 ∷ []) sevens ≡ ends 25 0 0 sevens)
    × (plotted two (entry 1 1 1 9 ∷ []) sevens ≡ ends 22 0 0 sevens)
    × (plotted two (entry 0 3 1 9 ∷ []) sevens ≡ ends 23 0 0 sevens)
    -- no bytes, at the end and past it
    × (plotted two (entry 0 3 0 6 ∷ []) sevens ≡ all sevens)
    × (plotted two (entry 0 3 0 7 ∷ []) sevens ≡ ends 25 0 0 sevens)
    -- the image's faults come with entry 0, an empty table has none
    × (plotted (bare 1 4 0) (entry 7 9 9 9 ∷ []) sevens ≡ ends 24 0 0 sevens)
    × (plotted [] (entry 0 0 1 0 ∷ []) sevens ≡ ends 4 0 0 sevens)
    × (plotted [] [] sevens ≡ all sevens)
    -- 256 entries, and 257
    × (plotted [] (replicate 256 (entry 0 0 1 0)) sevens ≡ ends 4 0 0 sevens)
    × (plotted [] (replicate 257 (entry 0 0 1 0)) sevens ≡ ends 25 0 0 sevens)

pub plots : Plots
unfolding
    base_blit.part base_blit.blit base_choice.if_lt base_choice.if_le base_choice.if_eq base_field.le_at base_field.le mdf_block.kind_at mdf_block.size_at
    mdf_block.links_at mdf_block.link_at mdf_block.first_link mdf_block.data_at mdf_block.header_in mdf_block.length_in mdf_block.whole_at mdf_block.wanted_at
    mdf_block.block_at mdf_chain.leaf_of mdf_chain.added mdf_chain.fragment_at mdf_chain.listed mdf_chain.is_in mdf_chain.list_in mdf_chain.chain_from mdf_chain.chain
    mdf_group.addresses mdf_group.channels_of mdf_group.groups_of mdf_group.up_to mdf_group.data_groups_of
    mdf_group.data_groups mdf_group.samples mdf_group.inval_bytes mdf_identification.drop_while
    mdf_identification.trimmed mdf_identification.first_part mdf_identification.past_dot mdf_identification.digits_from mdf_identification.digits
    mdf_identification.number mdf_identification.version_of mdf_identification.is_ascii mdf_identification.version_in mdf_identification.identified
    mdf_name.text_in mdf_name.name_at mdf_records.ranges_in mdf_records.joined mdf_records.size_of mdf_walk.is_met mdf_walk.tally mdf_walk.visit
    mdf_walk.entered mdf_walk.level mdf_walk.below_cn mdf_walk.below_cg mdf_walk.id_size mdf_walk.id_size_in mdf_walk.below_dg mdf_walk.walk_of
    file_form.cycles file_form.record_bytes file_form.alone file_form.none_zero file_form.links_formed file_form.is_equal_length file_form.equal_length
    file_form.have_length file_form.list_formed file_form.all_dt file_form.all_dv file_form.one_kind file_form.formed file_opened.column_in file_opened.columns_in
    file_opened.opened file_range.file_column_at file_range.asked file_range.start_of file_range.bytes_of file_range.range_of file_range.ranged
    file_range.into_buffer file_range.read_into file_range.within file_range.place_in file_range.located file_plot.fetched file_plot.single file_plot.plot_from file_plot.plotted
plots = (refl, refl, refl, refl, refl, refl, refl, refl, refl, refl, refl, refl, refl, refl, refl)
