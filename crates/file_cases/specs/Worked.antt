-- Document 01's example file, read: its 1288 bytes are those that the definitions give for the worked example.
use Rattle.std.specs.Prelude.{ℕ, List, [], ◌∷◌, ◌≡◌, refl, length, set}
use Rattle.base.specs.Checked.{ok, refused}
use Rattle.file.specs.Opened.{opened}
use Rattle.file.specs.Range.{ranged, into_buffer, located, at, split}
use Rattle.base.specs.Blit as base_blit
use Rattle.base.specs.Checked as base_checked
use Rattle.base.specs.Choice as base_choice
use Rattle.base.specs.Field as base_field
use Rattle.mdf.specs.Block as mdf_block
use Rattle.mdf.specs.Chain as mdf_chain
use Rattle.mdf.specs.Count as mdf_count
use Rattle.mdf.specs.Group as mdf_group
use Rattle.mdf.specs.Identification as mdf_identification
use Rattle.mdf.specs.Name as mdf_name
use Rattle.mdf.specs.Records as mdf_records
use Rattle.mdf.specs.Walk as mdf_walk
use Rattle.file.specs.Form as file_form
use Rattle.file.specs.Opened as file_opened
use Rattle.file.specs.Range as file_range
use Rattle.plan.specs.Table as plan_table
use Rattle.plan.specs.Channel as plan_channel_lem
use Rattle.plan.specs.Columns as plan_columns
use Rattle.plan.specs.Copies as plan_copies
use Rattle.plan.specs.Photos as plan_photos
use Rattle.plan.specs.Data as plan_data
use Rattle.plan.specs.Geometry as plan_geometry
use Rattle.plan.specs.Rules as plan_rules
use Rattle.plan.specs.Layout as plan_layout
use Rattle.result.specs.Fill as result_fill
use Rattle.result.specs.Listing as result_listing
use Rattle.result.specs.Payload as result_payload
use Rattle.result.specs.Sharing as result_sharing
use Rattle.result.specs.Result as result_result
use Rattle.cases.specs.Starred.{args}
use Rattle.file_cases.specs.Image.{outline}

abbrev file_in : result_result.Args → base_checked.Checked result_result.Decided → List ℕ
file_in x (base_checked.ok d) = result_result.file_of x d.laid_out
file_in x (base_checked.refused number place) = []

abbrev pub file : List ℕ
file = file_in args (result_result.decided args)

abbrev pub Worked : Type 0
Worked =
    (length file ≡ 1288)
    -- two columns of two blocks each
    × (outline (opened file) ≡ (256 ∷ 320 ∷ 424 ∷ 2 ∷ []) ∷ (648 ∷ 712 ∷ 824 ∷ 2 ∷ []) ∷ [])
    -- the part [1272, 1284): records 16 to 19 of column 1, 3 bytes each
    × (located file 1 16 4 ≡ ok (at 1272 12))
    × (ranged file 1 16 4 ≡ ok (248 ∷ 3 ∷ 0 ∷ 249 ∷ 3 ∷ 1 ∷ 250 ∷ 3 ∷ 0 ∷ 251 ∷ 3 ∷ 1 ∷ []))
    -- the part [1072, 1136): records 0 to 15 of column 0, 4 bytes each
    × (located file 0 0 16 ≡ ok (at 1072 64))
    × (located file 0 15 2 ≡ ok split)
    × (ranged file 0 15 2 ≡ ok (15 ∷ 0 ∷ 0 ∷ 0 ∷ 16 ∷ 0 ∷ 0 ∷ 0 ∷ []))
    -- the borders of 22, 23 and 24
    × (located file 1 20 0 ≡ ok (at 0 0))
    × (located file 2 0 0 ≡ refused 22 0)
    × (located file 1 20 1 ≡ refused 23 0)
    × (located file 1 21 0 ≡ refused 23 0)
    × (into_buffer file 1 16 4 11 ≡ refused 24 0)
    × (into_buffer file 1 16 4 13 ≡ refused 24 0)
    -- a cycle count of 21 in column 1 is 24 for column 0 too
    × (located (set file 800 21) 0 0 1 ≡ refused 24 0)

pub worked : Worked
unfolding
    base_blit.part base_blit.blit base_choice.if_lt base_choice.if_le base_choice.if_eq base_field.le_at base_field.le mdf_block.kind_at mdf_block.size_at
    mdf_block.links_at mdf_block.link_at mdf_block.first_link mdf_block.data_at mdf_block.header_in mdf_block.length_in mdf_block.whole_at mdf_block.wanted_at
    mdf_block.block_at mdf_chain.leaf_of mdf_chain.added mdf_chain.fragment_at mdf_chain.listed mdf_chain.is_in mdf_chain.list_in mdf_chain.chain_from
    mdf_chain.chain mdf_count.size_dt mdf_count.size_dv mdf_count.quotient mdf_count.sorted_count mdf_count.count_one mdf_count.of_group mdf_count.tallies
    mdf_count.count_groups mdf_count.counts_from mdf_count.counts mdf_group.addresses mdf_group.channels_of mdf_group.groups_of mdf_group.up_to
    mdf_group.data_groups_of mdf_group.data_groups mdf_group.record_id mdf_group.group_flags mdf_group.samples mdf_group.inval_bytes mdf_group.is_storage
    mdf_identification.drop_while mdf_identification.trimmed mdf_identification.first_part mdf_identification.past_dot mdf_identification.digits_from
    mdf_identification.digits mdf_identification.number mdf_identification.version_of mdf_identification.is_ascii mdf_identification.version_in
    mdf_identification.identified mdf_name.text_in mdf_name.name_at mdf_records.ranges_in mdf_records.joined mdf_records.place_of mdf_records.any_dv
    mdf_records.in_front mdf_records.runs mdf_records.size_of mdf_records.run_whole mdf_records.runs_whole mdf_records.pieces mdf_records.without_ids
    mdf_records.run_records mdf_records.sorted_records mdf_records.sorted_in mdf_records.with_id mdf_records.of_bytes mdf_records.frame_of mdf_records.frame_at
    mdf_records.frames_from mdf_records.frames mdf_records.is_id_of mdf_records.equal_ids mdf_records.unsorted_frames mdf_records.unsorted_records
    mdf_walk.is_met mdf_walk.tally mdf_walk.visit mdf_walk.entered mdf_walk.level mdf_walk.below_cn mdf_walk.below_cg mdf_walk.id_size mdf_walk.id_size_in
    mdf_walk.below_dg plan_channel_lem.channel_type plan_channel_lem.bit_offset plan_channel_lem.byte_offset plan_channel_lem.bit_count plan_channel_lem.channel_flags
    plan_channel_lem.inval_position plan_channel_lem.channel_bytes plan_channel_lem.fits plan_channel_lem.is_master_type plan_channel_lem.keeps_inval plan_channel_lem.width
    plan_channel_lem.inval_bit plan_table.count_in plan_table.type_at plan_table.treated_at plan_table.entry_of plan_table.is_sized plan_table.is_allowed plan_table.is_entry
    plan_table.are_entries plan_table.table_in plan_table.built_in_for plan_table.chosen_by plan_table.treatment plan_columns.with_counts plan_columns.src_groups plan_columns.first_master plan_columns.master_of
    plan_columns.remote_link plan_columns.group_at plan_columns.stand_in plan_columns.standing plan_columns.remote_time plan_columns.time_of plan_columns.time_column plan_columns.with_time plan_columns.new_time_in
    plan_columns.unfit plan_columns.further_master plan_columns.omitted_type plan_columns.composed plan_columns.signal_link plan_columns.stored_at
    plan_columns.decide_chain plan_columns.unless plan_columns.decide plan_columns.plan_channels plan_columns.plan_group
    plan_columns.plan_groups plan_columns.plan plan_columns.omission_addresses plan_columns.omission_reasons plan_columns.omission_words plan_copies.copy_of
    plan_copies.with_copy plan_copies.is_copied plan_copies.lost_links plan_copies.copy_links plan_copies.copy_at plan_copies.copy_root plan_copies.copy_roots
    plan_copies.history_from plan_copies.history_of plan_copies.column_copies plan_copies.is_attached plan_photos.attachment_in plan_photos.header_from plan_photos.header_chain plan_photos.header_attachments plan_photos.photos_first plan_photos.photo_count
    plan_photos.links_from plan_photos.references plan_photos.photos_of plan_photos.are_attached plan_photos.photos_in plan_copies.attach
    plan_copies.attachments_from plan_copies.attachments_of plan_data.is_nonempty plan_data.any_nonempty plan_data.signals_in plan_data.data_in
    plan_data.all_data_in plan_data.blocks_in plan_geometry.align8 plan_geometry.align_to plan_geometry.power_in plan_geometry.step_of plan_geometry.per_block
    plan_geometry.full_payload plan_geometry.block_count plan_geometry.per_full plan_geometry.block_payload plan_layout.column_width plan_layout.column_blocks
    plan_layout.dl_size plan_layout.cn_size plan_layout.structure_size plan_layout.payload_size plan_layout.blocks_end plan_rules.is_among plan_rules.unit_in plan_rules.choices_in plan_layout.first_at plan_layout.places_from plan_layout.structures_end plan_layout.places_end plan_layout.sizes_of plan_layout.with_places plan_layout.md_size plan_layout.past_copies plan_layout.fh_place plan_layout.layout result_fill.header
    result_fill.words result_fill.new_link result_fill.new_links result_fill.history_link result_fill.copied_links result_fill.data_of result_fill.copied_bytes
    result_fill.copied_blocks result_fill.md_bytes result_fill.fh_bytes result_fill.dg_bytes result_fill.cg_at result_fill.cg_data result_fill.cg_bytes
    result_fill.stored_type result_fill.cn_data result_fill.moved_to result_fill.photo_links result_fill.cn_bytes result_fill.block_links result_fill.column_payload result_fill.dl_bytes result_fill.dl_blocks
    result_fill.structure_blocks result_fill.block_of result_fill.payload_blocks result_fill.data_blocks result_fill.at_bytes result_fill.attachment_blocks
    result_fill.hd_data result_fill.hd_bytes result_listing.digits_of result_listing.decimal result_listing.column_line result_listing.column_lines
    result_listing.omission_lines result_listing.plan_lines result_payload.records_of result_payload.cell result_payload.cells result_payload.payloads
    result_payload.column_payloads result_result.hd_block result_result.blocks_of result_result.flat result_result.file_of result_result.source_groups_of
    result_result.time_columns result_sharing.sharing result_result.shared_groups result_result.blocks_written result_result.report result_result.lent_in result_result.decided result_result.answer
    result_result.work_in result_result.zeros result_result.convert mdf_walk.walk_of file_form.cycles file_form.record_bytes file_form.alone
    file_form.none_zero file_form.links_formed file_form.is_equal_length file_form.equal_length file_form.have_length file_form.list_formed file_form.all_dt
    file_form.all_dv file_form.one_kind file_form.formed file_opened.column_in file_opened.columns_in file_opened.opened file_range.file_column_at
    file_range.asked file_range.start_of file_range.bytes_of file_range.range_of file_range.ranged file_range.into_buffer file_range.read_into
    file_range.within file_range.place_in file_range.located
worked = (refl, refl, refl, refl, refl, refl, refl, refl, refl, refl, refl, refl, refl, refl)
